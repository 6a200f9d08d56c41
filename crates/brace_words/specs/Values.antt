-- Which texts are values of options, and what stands for an option or a flag.
use Rattle.std.specs.Prelude.{ℕ, Bool, true, false, not, ◌&&◌, ◌==◌, nat_le, length, Option, None, Some, bytes_eq, codes, option_and_then}
use Rattle.std.specs.List.{list_all, list_any}
use Rattle.clap.specs.Walk.{Text}
use Rattle.brace_num.specs.Spelling.{count_of}

-- a name is not empty
abbrev pub is_name : Text → Bool
is_name text = not (length text == 0)

-- a count within bounds, where there is one
abbrev pub is_within : ℕ → ℕ → Option ℕ → Bool
is_within least most None = false
is_within least most (Some n) = nat_le least n && nat_le n most

-- digits alone, of a number from the least to the most
abbrev pub is_number : ℕ → ℕ → Text → Bool
is_number least most text = is_within least most (count_of text)

-- what may become of a piece on a link: it is lost, delivered, delivered twice, or delivered late
abbrev pub is_fate : ℕ → Bool
is_fate letter = list_any (λ fate. letter == fate) (codes "ldta")

-- the letter `l`
abbrev pub is_loss : ℕ → Bool
is_loss letter = letter == 108

-- 1 to 16 letters of fates, not all of them losses
abbrev pub is_link : Text → Bool
is_link text =
    nat_le (length text) 16 && (list_all is_fate text && not (list_all is_loss text))

-- what stands for an option, if anything does, is a value of it
abbrev pub is_absent_or : (Text → Bool) → Option Text → Bool
is_absent_or is_value None = true
is_absent_or is_value (Some text) = is_value text

-- what stands for each option and flag by its name, if anything does
abbrev pub Found : Type 0
Found = Text → Option Text

-- the number that stands for an option, if any
abbrev pub number_in : Found → Text → Option ℕ
number_in found option = option_and_then count_of (found option)

-- a flag stands where its text is `true`
abbrev pub says_true : Option Text → Bool
says_true None = false
says_true (Some text) = bytes_eq text (codes "true")

abbrev pub is_set : Found → Text → Bool
is_set found flag = says_true (found flag)
