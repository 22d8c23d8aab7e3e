pub mod Dialogues
pub mod Steps
pub mod Machines
