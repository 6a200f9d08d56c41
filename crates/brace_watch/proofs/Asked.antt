-- What is known of a watch that a line asks for.
use Rattle.std.proofs.Common.{◌≡◌, refl, ap, ℕ, ◌<◌, List, [], ◌∷◌, length, Bool, true, false, Option, Some, None, Result, Ok, Err, All}
use Rattle.std.specs.Prelude.{if◌then◌else◌, position}
use Rattle.std.specs.List.{AllByRecursion, cons_option}
use Rattle.std.specs.Result.{result_ok}
use Rattle.std.specs.Str.{bytes_eq}
use Rattle.std.proofs.lemmas.List.Elements.{All-from_recursion}
use Rattle.std.proofs.lemmas.List.Quantifiers.{position-Some}
use Rattle.brace_model.specs.declared.program.Class.{Class}
use Rattle.brace_model.specs.declared.program.Program.{Program}
use Rattle.brace_rows.specs.AgentFile.{class_named}
use Rattle.brace_watch.specs.declared.kinds.Watch.{Watch}
use Rattle.brace_watch.specs.declared.kinds.WatchKind.{WatchKind}
use Rattle.brace_watch.specs.declared.kinds.WatchKind.TheVariants.{UnknownField, WrongType}
use Rattle.brace_watch.specs.Lines as lines
use Rattle.brace_watch.specs.Watches.{watch_in, watch_with, watch_of, watches_in, IsWatch}

-- the place of an element is in its list
position-within : {X : Type 0} (p : X → Bool) (xs : List X) (i : ℕ) → position p xs ≡ Some i → i < length xs
position-within p [] i e = absurd (cc)
position-within p (x ∷ xs) i e = (position-Some p (x ∷ xs) i x e).0

-- a watch that passes two tests
passes : (b c : Bool) (w watch : Watch) → ◌≡◌ {A = Result Watch WatchKind} (if b then Err UnknownField else if c then Err WrongType else Ok w) (Ok watch) → w ≡ watch
passes true c w watch e = absurd (cc)
passes false true w watch e = absurd (cc)
passes false false w watch e = cc

-- the class of a watch has a name
of_class : (program : Program) (line : lines.Line) (o : Option ℕ) (watch : Watch) → watch_in program line o ≡ Ok watch → o ≡ Some watch.class
of_class program line None watch e = absurd (cc)
of_class program line (Some class) watch e = ap (λ (w : Watch). Some w.class) (passes _ _ _ watch e)

named : (program : Program) (o : Option lines.Line) (watch : Watch) → watch_with program o ≡ Ok watch → watch.class < length program.classes
named program None watch e = absurd (cc)
named program (Some line) watch e =
    let found = of_class program line (class_named program line.class) watch e in
    position-within (λ (c : Class). bytes_eq c.name line.class) program.classes watch.class found

-- the class of a watch is there
pub class_is_there : (program : Program) (watch : Watch) → IsWatch program watch → watch.class < length program.classes
class_is_there program watch is = named program (lines.line_of is.line) watch is.asks

-- each watch of a file is asked for by a line
asked : (program : Program) (texts : List (List ℕ)) → AllByRecursion (IsWatch program) (watches_in program texts)
asked program [] = tt
asked program (text ∷ texts) = by_line (watch_of program text) refl (asked program texts)
  where
    by_line : (r : Result Watch WatchKind) → watch_of program text ≡ r → AllByRecursion (IsWatch program) (watches_in program texts)
        → AllByRecursion (IsWatch program) (cons_option (result_ok r) (watches_in program texts))
    by_line (Ok watch) is rest = (record { line = text; asks = is }, rest)
    by_line (Err kind) is rest = rest

pub each_asked : (program : Program) (texts : List (List ℕ)) (watches : List Watch) → watches ≡ watches_in program texts → All (IsWatch program) watches
each_asked program texts watches is = rw is (All-from_recursion (IsWatch program) (watches_in program texts) (asked program texts))
