-- The records of a file, taken one by one from a place between two of them.
use Rattle.std.proofs.Common.{◌≡◌, ◌≤◌, ◌<◌, ◌+◌, ◌-◌, ◌∙◌, ℕ, zero, suc, Bool, true, false, List, [], ◌∷◌, length, Option, Some, None, Bor, add-one, sym, refl, ap, ap₂, arith, inl, inr}
use Rattle.std.proofs.lemmas.Bool.{cases_Bool, false≢true}
use Rattle.std.specs.Prelude.{◌==◌, ◌&&◌, if◌then◌else◌}
use Rattle.csv.specs.Machine.{Read, after_end, ends_at_end, ends_with, field_after, fields_after, in_field, is_byte, is_end, next_record, start_field, start_record, step}
use Rattle.csv.specs.Reading.{Reached, ReadRecord, default_config, records_from, records_next, reader_config, reader_state, source_of}
use Rattle.csv.specs.declared.parser.Config.{Config}
use Rattle.csv.specs.declared.parser.Terminator.{Terminator}
use Rattle.csv.specs.declared.parser.Terminator.TheVariants as term
use Rattle.csv.specs.declared.parser.State.{State}
use Rattle.csv.specs.declared.parser.State.TheVariants as st
use Rattle.csv.specs.declared.parser.Action.{Action}
use Rattle.csv.specs.declared.parser.Action.TheVariants as act
use Rattle.csv.specs.declared.reader.Reader.{Reader}
use Rattle.csv.proofs.ReadFacts.{rows-more}
use Rattle.std.proofs.lemmas.Option.{same_Some}

-- where a byte ends a record, the machine stands between two records
abbrev Parts : State × Action → Type 0
Parts x = is_end x.1 ≡ true → ends_at_end x.0 ≡ false

parts_if : (b : Bool) (x y : State × Action) → Parts x → Parts y → Parts (if b then x else y)
parts_if true x y hx hy = hx
parts_if false x y hx hy = hy

goes_on : (s : State) (a : Action) → is_end a ≡ false → Parts (s, a)
goes_on s a e h = absurd (false≢true (sym e ∙ h))

parts_after_end : (t : Terminator) (c : ℕ) → ends_at_end (after_end t c) ≡ false
parts_after_end term.CRLF c = elim (c == 13) as (λ b. ends_at_end (if b then st.AfterCr else st.StartRecord) ≡ false) [ true ↦ refl | false ↦ refl ]
parts_after_end (term.Any t) c = refl

parts_in_field : (cfg : Config) (c : ℕ) → Parts (in_field cfg c)
parts_in_field cfg c =
    parts_if (c == cfg.delimiter) (st.StartField, act.EndField) (if ends_with cfg.terminator c then (after_end cfg.terminator c, act.EndRecord) else (st.InField, act.Copy))
    (goes_on st.StartField act.EndField refl)
    (parts_if (ends_with cfg.terminator c) (after_end cfg.terminator c, act.EndRecord) (st.InField, act.Copy) (λ h. parts_after_end cfg.terminator c) (goes_on st.InField act.Copy refl))

parts_start_field : (cfg : Config) (c : ℕ) → Parts (start_field cfg c)
parts_start_field cfg c = parts_if (cfg.quoting && (c == cfg.quote)) (st.InQuoted, act.Skip) (in_field cfg c) (goes_on st.InQuoted act.Skip refl) (parts_in_field cfg c)

parts_start_record : (cfg : Config) (c : ℕ) → Parts (start_record cfg c)
parts_start_record cfg c =
    parts_if (ends_with cfg.terminator c) (st.StartRecord, act.Skip) (if is_byte cfg.comment c then (st.InComment, act.Skip) else start_field cfg c)
    (goes_on st.StartRecord act.Skip refl)
    (parts_if (is_byte cfg.comment c) (st.InComment, act.Skip) (start_field cfg c) (goes_on st.InComment act.Skip refl) (parts_start_field cfg c))

parts_step : (cfg : Config) (s : State) (c : ℕ) → Parts (step cfg s c)
parts_step cfg st.StartRecord c = parts_start_record cfg c
parts_step cfg st.StartField c = parts_start_field cfg c
parts_step cfg st.InField c = parts_in_field cfg c
parts_step cfg st.InQuoted c =
    parts_if (cfg.quoting && (c == cfg.quote)) (st.AfterQuote, act.Skip) (if cfg.quoting && is_byte cfg.escape c then (st.InEscape, act.Skip) else (st.InQuoted, act.Copy))
    (goes_on st.AfterQuote act.Skip refl)
    (parts_if (cfg.quoting && is_byte cfg.escape c) (st.InEscape, act.Skip) (st.InQuoted, act.Copy) (goes_on st.InEscape act.Skip refl) (goes_on st.InQuoted act.Copy refl))
parts_step cfg st.InEscape c = goes_on st.InQuoted act.Copy refl
parts_step cfg st.AfterQuote c = parts_if (cfg.quoting && cfg.double_quote && (c == cfg.quote)) (st.InQuoted, act.Copy) (in_field cfg c) (goes_on st.InQuoted act.Copy refl) (parts_in_field cfg c)
parts_step cfg st.InComment c = parts_if (c == 10) (st.StartRecord, act.Skip) (st.InComment, act.Skip) (goes_on st.StartRecord act.Skip refl) (goes_on st.InComment act.Skip refl)
parts_step cfg st.AfterCr c = parts_if (c == 10) (st.StartRecord, act.Skip) (start_record cfg c) (goes_on st.StartRecord act.Skip refl) (parts_start_record cfg c)

-- what is left is shorter, and stands between two records
abbrev Took : List ℕ → Read → Type 0
Took xs p = (length p.2 ≤ length xs - 1) × (ends_at_end p.1 ≡ false)

takes_a_byte : (cfg : Config) (s : State) (fields : List (List ℕ)) (field xs : List ℕ) (p : Read) → next_record cfg s fields field xs ≡ Some p → Took xs p
unfolding next_record
takes_a_byte cfg s fields field [] p e = elim (cases_Bool (ends_at_end s)) [
  | inl over ↦ let q = same_Some _ p (rw over at e) in rw (← q) ((omega arith), refl)
  | inr more ↦ let bad : None ≡ Some p = rw more at e in absurd cc
]
takes_a_byte cfg s fields field (c ∷ rest) p e = elim (cases_Bool (is_end (step cfg s c).1)) [
  | inl over ↦ let q = same_Some _ p (rw over at e) in rw (← q) (omega arith, parts_step cfg s c over)
  | inr more ↦
      let t = takes_a_byte cfg (step cfg s c).0 (fields_after (step cfg s c).1 fields field) (field_after (step cfg s c).1 c field) rest p (rw more at e) in
      (omega (arith, t.0), t.1)
]

-- between two records, a next one has a byte
has_a_byte : (cfg : Config) (s : State) (xs : List ℕ) (p : Read) → ends_at_end s ≡ false → next_record cfg s [] [] xs ≡ Some p → 0 < length xs
unfolding next_record
has_a_byte cfg s [] p b e = let bad : None ≡ Some p = rw b at e in absurd cc
has_a_byte cfg s (c ∷ rest) p b e = omega arith

-- more turns than bytes give the same records
enough_turns : (cfg : Config) (n m : ℕ) (s : State) (xs : List ℕ) → ends_at_end s ≡ false → length xs < n → length xs < m → records_from cfg n s xs ≡ records_from cfg m s xs
unfolding records_from
enough_turns cfg zero m s xs b h k = absurd (omega (arith, h))
enough_turns cfg (suc n) zero s xs b h k = absurd (omega (arith, k))
enough_turns cfg (suc n) (suc m) s xs b h k = go (next_record cfg s [] [] xs) refl (λ p a below. enough_turns cfg n m p.1 p.2 a (omega (arith, below, h)) (omega (arith, below, k)))
  where
    go : (o : Option Read) → next_record cfg s [] [] xs ≡ o
        → ((p : Read) → ends_at_end p.1 ≡ false → length p.2 < length xs → records_from cfg n p.1 p.2 ≡ records_from cfg m p.1 p.2)
        → records_next (records_from cfg n) o ≡ records_next (records_from cfg m) o
    go None e more = refl
    go (Some p) e more =
        let t = takes_a_byte cfg s [] [] xs p e in
        let some = has_a_byte cfg s xs p b e in
        ap (λ (l : List (List (List ℕ))). p.0 ∷ l) (more p t.1 (omega (arith, t.0, some)))

-- the records from a place between two of them
abbrev pub records_left : State → List ℕ → List (List (List ℕ))
records_left s xs = records_from default_config (length xs + 1) s xs

left_more : (s : State) (xs : List ℕ) (p : Read) → ends_at_end s ≡ false → next_record default_config s [] [] xs ≡ Some p
    → (records_left s xs ≡ p.0 ∷ records_left p.1 p.2) × (ends_at_end p.1 ≡ false)
unfolding records_from
left_more s xs p b e =
    let t = takes_a_byte default_config s [] [] xs p e in
    let some = has_a_byte default_config s xs p b e in
    (rw (add-one, e) (ap (λ (l : List (List (List ℕ))). p.0 ∷ l) (enough_turns default_config (length xs) (length p.2 + 1) p.1 p.2 t.1 (omega (arith, t.0, some)) (omega arith))), t.1)

pub left_none : (s : State) (xs : List ℕ) → next_record default_config s [] [] xs ≡ None → records_left s xs ≡ []
unfolding records_from
left_none s xs e = rw (add-one, e) refl

-- one record leads from a place to the next
one_reached : (s t : State) (f : List (List ℕ)) (xs ys : List ℕ) → Reached default_config s xs (f ∷ []) t ys
    → (p : Read) × (next_record default_config s [] [] xs ≡ Some p) × (f ≡ p.0) × ((p.1 ≡ t) × (p.2 ≡ ys))
unfolding Reached
one_reached s t f xs ys h = h

-- a reader of bytes that are known
abbrev pub BytesReader : Type 0
BytesReader = Reader (Bor (List ℕ))

abbrev pub source : BytesReader → Option (List ℕ)
source reader = source_of (λ s. Some s.now) reader

-- one read takes the first record of those that are left
pub read_one : (a b : BytesReader) (f : List (List ℕ)) (y : List ℕ) → reader_config a ≡ default_config → source a ≡ Some y → ends_at_end (reader_state a) ≡ false
    → ReadRecord (λ s. Some s.now) a b true f
    → (z : List ℕ) × (source b ≡ Some z) × (ends_at_end (reader_state b) ≡ false) × (records_left (reader_state a) y ≡ f ∷ records_left (reader_state b) z)
unfolding Reached
read_one a b f y config known between r =
    let (z, at_z, reached) = rows-more (λ (s : Bor (List ℕ)). Some s.now) a b f default_config (reader_state a) y y [] config known (refl, refl) r in
    let (p, next, same, places) = one_reached (reader_state a) (reader_state b) f y z reached in
    let (rows, after) = left_more (reader_state a) y p between next in
    (z, at_z, rw (← places.0) after, rows ∙ ap₂ (λ (h : List (List ℕ)) (t : List (List (List ℕ))). h ∷ t) (sym same) (ap₂ records_left places.0 places.1))
