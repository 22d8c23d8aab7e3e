use Rattle.refusals.proofs.refusal.Refusal.upload_line.Goals as goal

pub returns-in-GaveUp : goal.returns-in-GaveUp
returns-in-GaveUp c = rw c.in-GaveUp.is (simp (c.as_slice.ensures.value, c.from.ensures) at c.of-in-GaveUp.ensures)

pub returns-in-Refused : goal.returns-in-Refused
returns-in-Refused c =
    rw c.in-Refused.is (simp (c.as_slice-in-Refused.ensures.value, c.from-in-Refused.ensures, c.from-in-Refused-2.ensures) at c.of-in-Refused.ensures)

pub returns-in-Differs : goal.returns-in-Differs
returns-in-Differs c =
    rw c.in-Differs.is (simp (c.as_slice-in-Differs.ensures.value, c.hex_word.ensures, c.hex_word-in-Differs.ensures) at c.of-in-Differs.ensures)
