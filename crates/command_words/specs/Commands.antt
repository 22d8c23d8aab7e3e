-- The words of the command line, and what they ask for (docs/COMMANDS.md, "Options").
use Rattle.std.specs.Prelude.{◌≡◌, ◌↔◌, ℕ, ◌≤◌, replicate, Bool, ◌&&◌, not, List, [], ◌∷◌, ◌++◌, length, find, is_some}
use Rattle.std.specs.Prelude.{nat_le, bytes_eq, codes, slice_index_or, slice_set, Option, Some, None, IfSome, unwrap_or}
use Rattle.std.specs.Prelude.{if◌then◌else◌, ◌==◌, ℤ, pos, ◌≤ℤ◌}
use Rattle.std.specs.Option.{option_map, option_and_then}
use Rattle.std.specs.List.{list_any}
use Rattle.whole_numbers.specs.Limits.{most_depth, most_drones, most_fine}
use Rattle.text_lines.specs.Numbers.{natural_of}
use Rattle.command_words.specs.declared.command.Command.{Command}
use Rattle.command_words.specs.declared.command.Command.TheVariants.{Help, Version, Check, Compile, Certify, Play}
use Rattle.command_words.specs.declared.command.Command.TheVariants.{Report, Verify, Rehearse, Upload, Direct, Drill}
use Rattle.command_words.specs.declared.command.Command.TheVariants.{Boxes, Speed, Explain, Dynamics}
use Rattle.command_words.specs.declared.flight.FlightOptions.{FlightOptions}
use Rattle.command_words.specs.declared.options.OptionName.{OptionName}
use Rattle.command_words.specs.declared.options.OptionName.TheVariants.{Depth, Step, Start, Readback, Limit, Fine}
use Rattle.command_words.specs.declared.options.OptionName.TheVariants.{Accel, Jump, Near, At, Silence, Floor, Descent}
use Rattle.command_words.specs.declared.options.OptionName.TheVariants.{Then, All}
use Rattle.command_words.specs.declared.options.Range.{Range}
use Rattle.command_words.specs.declared.options.Options.{Options}

-- ---- numbers

-- the depth where no option names one
abbrev pub default_depth : ℕ
default_depth = 6

-- the step where no option names one, and the greatest, in milliseconds
abbrev pub default_step : ℕ
default_step = 100

abbrev pub most_step : ℕ
most_step = 60000

-- the greatest limit on speed, in micrometres per second
abbrev pub most_limit : ℕ
most_limit = 999999999

-- the greatest limit on acceleration, in millimetres per second squared, and on a jump of speed, in millimetres per
-- second
abbrev pub most_bound : ℕ
most_bound = 999999999

-- how finely a cue is listed where no option says it: into 2 ^ fine parts
abbrev pub default_fine : ℕ
default_fine = 5

-- how near a drone has to be to its pad, and to its position in the air, where no option says it; and the greatest such
-- distance, in millimetres
abbrev pub default_near : ℕ
default_near = 80

abbrev pub most_near : ℕ
most_near = 32767

-- after how long a drone is silent, and how long a landing takes, where no option says it; and the longest time, in
-- milliseconds
abbrev pub default_silence : ℕ
default_silence = 1000

abbrev pub default_descent : ℕ
default_descent = 4000

abbrev pub most_wait : ℕ
most_wait = 60000

-- the greatest height of the floor, in millimetres
abbrev pub most_floor : ℕ
most_floor = 32767

-- the most digits of a number on the command line
abbrev pub most_digits : ℕ
most_digits = 9

-- The number that a word is, where it lies between the two: 1 to 9 decimal digits, leading zeros allowed.
abbrev pub between : ℕ → ℕ → Option ℕ → Option ℕ
between least most None = None
between least most (Some n) = if nat_le least n && nat_le n most then Some n else None

abbrev pub number_from : ℕ → ℕ → List ℕ → Option ℕ
number_from least most word = if nat_le (length word) most_digits then between least most (natural_of word) else None

-- ---- options

-- the word of an option
abbrev pub word_of : OptionName → List ℕ
word_of Depth = codes "--depth"
word_of Step = codes "--step"
word_of Start = codes "--start"
word_of Readback = codes "--readback"
word_of Limit = codes "--limit"
word_of Fine = codes "--fine"
word_of Accel = codes "--accel"
word_of Jump = codes "--jump"
word_of Near = codes "--near"
word_of At = codes "--at"
word_of Silence = codes "--silence"
word_of Floor = codes "--floor"
word_of Descent = codes "--descent"
word_of Then = codes "--then"
word_of All = codes "--all"

-- the numbers of which one follows it; a flag stands alone
abbrev pub range_of : OptionName → Option Range
range_of Depth = Some (record { least = 0; most = most_depth })
range_of Step = Some (record { least = 1; most = most_step })
range_of Start = None
range_of Readback = None
range_of Limit = Some (record { least = 1; most = most_limit })
range_of Fine = Some (record { least = 0; most = most_fine })
range_of Accel = Some (record { least = 0; most = most_bound })
range_of Jump = Some (record { least = 0; most = most_bound })
range_of Near = Some (record { least = 0; most = most_near })
range_of At = Some (record { least = 0; most = most_near })
range_of Silence = Some (record { least = 1; most = most_wait })
range_of Floor = Some (record { least = 0; most = most_floor })
range_of Descent = Some (record { least = 1; most = most_wait })
range_of Then = Some (record { least = 0; most = 1 })
range_of All = None

-- what the show does where a drone is lost or astray: 0 where all land, 1 where it goes on
abbrev pub then_of : List ℕ → Option ℕ
then_of word = if bytes_eq word (codes "land") then Some 0 else (if bytes_eq word (codes "fly") then Some 1 else None)

-- the number that a word is after an option
unfoldable pub value_of : OptionName → Range → List ℕ → Option ℕ
value_of Then r word = then_of word
value_of name r word = number_from r.least r.most word

-- the option that a word names
abbrev pub named_by : List ℕ → Option OptionName
named_by word =
    find (λ n. bytes_eq word (word_of n)) (All ∷ Depth ∷ Step ∷ Start ∷ Readback ∷ Limit ∷ Fine ∷ Accel ∷ Jump ∷ Near ∷ At
    ∷ Silence ∷ Floor ∷ Descent ∷ Then ∷ [])

-- An option that is given, with its number; a flag has 1.
pub record Given : Type 0 where
  pub name : OptionName
  pub value : ℕ

-- an option that is a flag
abbrev pub flag_with : OptionName → Option Range → Option Given
flag_with name None = Some (record { name = name; value = 1 })
flag_with name (Some r) = None

abbrev pub flag : List ℕ → Option Given
flag word = option_and_then (λ (n : OptionName). flag_with n (range_of n)) (named_by word)

-- an option with the word of its number
abbrev pub valued_with : OptionName → List ℕ → Option Range → Option Given
valued_with name value None = None
valued_with name value (Some r) = option_map (λ (n : ℕ). record { name = name; value = n }) (value_of name r value)

abbrev pub valued : List ℕ → List ℕ → Option Given
valued word value = option_and_then (λ (n : OptionName). valued_with n value (range_of n)) (named_by word)

-- one option before others, where all of them are options
abbrev pub before : Option Given → Option (List Given) → Option (List Given)
before None rest = None
before (Some given) rest = option_map (λ (gs : List Given). given ∷ gs) rest

-- The options that words are, in their order; None where some word has no place among them.
abbrev pub options_of : List (List ℕ) → Option (List Given)
options_of [] = Some []
options_of (word ∷ []) = before (flag word) (Some [])
options_of (word ∷ value ∷ words) =
    if is_some (flag word) then before (flag word) (options_of (value ∷ words))
    else before (valued word value) (options_of words)

-- ---- the options of a command, each at most once, in any order

-- the place of an option among the values
abbrev pub place_of : OptionName → ℕ
place_of Depth = 0
place_of Step = 1
place_of Start = 2
place_of Readback = 3
place_of Limit = 4
place_of Fine = 5
place_of Accel = 6
place_of Jump = 7
place_of Near = 8
place_of At = 9
place_of Silence = 10
place_of Floor = 11
place_of Descent = 12
place_of Then = 13
place_of All = 14

-- no option is given
abbrev pub no_options : Options
no_options = record { values = replicate 15 None }

-- the number of an option, if it is given
abbrev pub given_in : Options → OptionName → Option ℕ
given_in o name = slice_index_or o.values (place_of name) None

-- whether a command that takes these options takes this one
abbrev pub takes : List OptionName → OptionName → Bool
takes names name = list_any (λ n. place_of n == place_of name) names

-- one option more; None where the command doesn't take it, or where it is there already
abbrev pub noted : List OptionName → Options → Given → Option Options
noted names o g =
    if takes names g.name && not (is_some (given_in o g.name))
    then Some (record { values = slice_set o.values (place_of g.name) (Some g.value) }) else None

-- these options more, in their order
abbrev pub collected : List OptionName → Options → List Given → Option Options
collected names o [] = Some o
collected names o (given ∷ gs) = option_and_then (λ (next : Options). collected names next gs) (noted names o given)

-- what is given by words of a command that takes these options
abbrev pub options_for : List OptionName → List (List ℕ) → Option Options
options_for names words = option_and_then (collected names no_options) (options_of words)

-- the depth, the step and the fineness that are given, or their defaults
abbrev pub depth_in : Options → ℕ
depth_in o = unwrap_or (given_in o Depth) default_depth

abbrev pub step_in : Options → ℕ
step_in o = unwrap_or (given_in o Step) default_step

abbrev pub fine_in : Options → ℕ
fine_in o = unwrap_or (given_in o Fine) default_fine

-- What is given for a flight, or its defaults. Without `--then` all land where a drone is lost or astray in the show.
abbrev pub flight_in : Options → FlightOptions
flight_in o = record {
  near = unwrap_or (given_in o Near) default_near;
  at_place = unwrap_or (given_in o At) default_near;
  silence = unwrap_or (given_in o Silence) default_silence;
  floor = pos (unwrap_or (given_in o Floor) 0);
  descent = unwrap_or (given_in o Descent) default_descent;
  then_land = unwrap_or (given_in o Then) 0 == 0;
  depth = depth_in o;
}

-- a flag is given
abbrev pub has : Options → OptionName → Bool
has o name = is_some (given_in o name)

-- ---- commands

-- a command whose one option is a depth, by what it is with that depth
abbrev pub with_depth : (ℕ → Command) → List (List ℕ) → Option Command
with_depth make words = option_map (λ (o : Options). make (depth_in o)) (options_for (Depth ∷ []) words)

-- a command that takes no option
abbrev pub bare : Command → List (List ℕ) → Option Command
bare c words = option_map (λ (o : Options). c) (options_for [] words)

-- a command that takes a depth and the two flags
abbrev pub with_flags : (ℕ → Bool → Bool → Command) → List (List ℕ) → Option Command
with_flags make words =
    option_map (λ (o : Options). make (depth_in o) (has o Start) (has o Readback))
    (options_for (Depth ∷ Start ∷ Readback ∷ []) words)

-- a drill of this many drones
abbrev pub drill_with : List (List ℕ) → Option ℕ → Option Command
drill_with words None = None
drill_with words (Some drones) = with_depth (λ (depth : ℕ). Drill drones depth) words

abbrev pub drill_in : List (List ℕ) → Option Command
drill_in [] = None
drill_in (number ∷ words) = drill_with words (number_from 1 most_drones number)

-- the command of this name that studies a show, with the words after it
abbrev pub study : List ℕ → List (List ℕ) → Option Command
study name words =
    if bytes_eq name (codes "boxes") then with_depth Boxes words
    else (if bytes_eq name (codes "speed")
    then option_map (λ (o : Options). Speed (depth_in o) (given_in o Limit)) (options_for (Depth ∷ Limit ∷ []) words)
    else (if bytes_eq name (codes "explain")
    then option_map (λ (o : Options). Explain (depth_in o) (fine_in o) (has o All))
    (options_for (Depth ∷ Fine ∷ All ∷ []) words)
    else (if bytes_eq name (codes "dynamics") then option_map
    (λ (o : Options). Dynamics (depth_in o) (given_in o Accel) (given_in o Jump))
    (options_for (Depth ∷ Accel ∷ Jump ∷ []) words)
    else None)))

-- the command of this name that flies a show, with the words after it
abbrev pub flying : List ℕ → List (List ℕ) → Option Command
flying name words =
    if bytes_eq name (codes "direct")
    then option_map
    (λ (o : Options). Direct (flight_in o))
    (options_for (Depth ∷ Near ∷ At ∷ Silence ∷ Floor ∷ Descent ∷ Then ∷ []) words)
    else study name words

-- the command of this name that takes packets to drones, with the words after it
abbrev pub sending : List ℕ → List (List ℕ) → Option Command
sending name words =
    if bytes_eq name (codes "rehearse") then with_flags Rehearse words
    else (if bytes_eq name (codes "upload") then with_flags Upload words
    else flying name words)

-- the command of this name, with the words after it
abbrev pub named : List ℕ → List (List ℕ) → Option Command
named name words =
    if bytes_eq name (codes "help") then bare Help words
    else (if bytes_eq name (codes "version") then bare Version words
    else (if bytes_eq name (codes "check") then with_depth Check words
    else (if bytes_eq name (codes "compile") then with_depth Compile words
    else (if bytes_eq name (codes "certify") then with_depth Certify words
    else (if bytes_eq name (codes "play")
    then option_map (λ (o : Options). Play (depth_in o) (step_in o)) (options_for (Depth ∷ Step ∷ []) words)
    else (if bytes_eq name (codes "report") then with_depth Report words
    else (if bytes_eq name (codes "verify") then bare Verify words
    else (if bytes_eq name (codes "drill") then drill_in words
    else sending name words))))))))

-- The command that a list of words is: its name, for `drill` a number, and then options.
abbrev pub command_of : List (List ℕ) → Option Command
command_of [] = None
command_of (name ∷ words) = named name words

-- the numbers of a command are those that the program takes
abbrev pub IsCommand : Command → Type 0
IsCommand Help = Unit {0}
IsCommand Version = Unit {0}
IsCommand (Check depth) = Unit {0}
IsCommand (Compile depth) = Unit {0}
IsCommand (Certify depth) = Unit {0}
IsCommand (Play depth step) = (1 ≤ step) × (step ≤ most_step)
IsCommand (Report depth) = Unit {0}
IsCommand Verify = Unit {0}
IsCommand (Rehearse depth start readback) = Unit {0}
IsCommand (Upload depth start readback) = Unit {0}
IsCommand (Direct options) = (pos 0 ≤ℤ options.floor) × (options.floor ≤ℤ pos most_floor)
IsCommand (Drill drones depth) = (1 ≤ drones) × (drones ≤ most_drones)
IsCommand (Boxes depth) = Unit {0}
IsCommand (Speed depth limit) = IfSome limit (λ v. (1 ≤ v) × (v ≤ most_limit))
IsCommand (Explain depth fine all) = Unit {0}
IsCommand (Dynamics depth accel jump) = IfSome accel (λ a. a ≤ most_bound) × IfSome jump (λ j. j ≤ most_bound)

-- ---- what that means

-- the words of an option
abbrev pub SpellsWith : Given → List (List ℕ) → Option Range → Type 0
SpellsWith g words None = (words ≡ word_of g.name ∷ []) × (g.value ≡ 1)
SpellsWith g words (Some r) =
    (value : List ℕ) × (words ≡ word_of g.name ∷ value ∷ []) × (value_of g.name r value ≡ Some g.value)

abbrev pub SpellsOption : Given → List (List ℕ) → Type 0
SpellsOption g words = SpellsWith g words (range_of g.name)

-- words are these options, one after the other
abbrev pub SpellsOptions : List Given → List (List ℕ) → Type 0
SpellsOptions [] words = words ≡ []
SpellsOptions (given ∷ gs) words =
    (front rest : List (List ℕ)) × SpellsOption given front × SpellsOptions gs rest × (words ≡ front ++ rest)

-- Options are read exactly where words are options.
abbrev pub WordsLaw : Type 0
WordsLaw = (words : List (List ℕ)) (gs : List Given) → (options_of words ≡ Some gs) ↔ SpellsOptions gs words

-- what `help` writes
abbrev pub help_text : List ℕ
help_text =
    codes "help\ncheck [--depth D]\ncompile [--depth D]\ncertify [--depth D]\n"
    ++ codes "play [--depth D] [--step MS]\nreport [--depth D]\nverify\n"
    ++ codes "rehearse [--depth D] [--start] [--readback]\nupload [--depth D] [--start] [--readback]\n"
    ++ codes "direct [--depth D] [--near MM] [--at MM] [--silence MS] [--floor MM] [--descent MS] [--then land|fly]\n"
    ++ codes "drill N [--depth D]\n"
    ++ codes "boxes [--depth D]\nspeed [--depth D] [--limit V]\nexplain [--depth D] [--fine E] [--all]\n"
    ++ codes "dynamics [--depth D] [--accel A] [--jump J]\nversion\n"
