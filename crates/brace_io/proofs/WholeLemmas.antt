-- What two writes in turn add.
use Rattle.std.proofs.Common.{◌≡◌, ◌≤◌, ◌+◌, ◌-◌, ◌∙◌, ◌++◌, ℕ, List, Option, Some, None, Bool, cond, take, drop, length, sym, refl, ap, arith, append_assoc, length-drop}
use Rattle.std.proofs.lemmas.List.{take_all}
use Rattle.std.proofs.Math.Seq.{take-add}
use Rattle.brace_io.specs.Shelves.{Files, Stage, Writing, tells, Holds, Adds, OnlyAt, WritesTo}
use Rattle.brace_io.specs.Sinks.{with_piece, Gains}

pub with_piece-twice : (a : Option (List ℕ)) (p q : List ℕ) → with_piece (with_piece a p) q ≡ with_piece a (p ++ q)
with_piece-twice None p q = refl
with_piece-twice (Some s) p q = ap Some (append_assoc s p q)

-- the front of d bytes, and then a front of the rest
pub front-then : (a b c : Option (List ℕ)) (d n : ℕ) (piece : List ℕ) → Gains a b (take d piece) → Gains b c (take n (drop d piece)) → Gains a c (take (d + n) piece)
front-then a b c d n piece h k = k ∙ (ap (λ (w : Option (List ℕ)). with_piece w (take n (drop d piece))) h ∙ (with_piece-twice a (take d piece) (take n (drop d piece)) ∙ ap (with_piece a) (sym (take-add d n piece))))

-- a slice to the end is what is left
pub to_end : (d : ℕ) (p : List ℕ) → d ≤ length p → take (length p - d) (drop d p) ≡ drop d p
to_end d p le = take_all (length p - d) (drop d p) (omega (arith, length-drop d p))

-- the name has d bytes of the piece, and then a front of the rest
pub holds-then : (b c : Option Files) (name : List ℕ) (d n : ℕ) (piece : List ℕ) → Holds b name (take d piece) → Adds b c name (take n (drop d piece)) → tells c ≡ tells b → Holds c name (take (d + n) piece)
holds-then b c name d n piece h adds t told = adds (take d piece) (h (sym t ∙ told)) ∙ ap Some (sym (take-add d n piece))

pub only-then : (a b c : Option Files) (name : List ℕ) → OnlyAt a b name → OnlyAt b c name → OnlyAt a c name
only-then a b c name p q = (q.0 ∙ p.0, λ other ne. q.1 other ne ∙ p.1 other ne)

pub writes-still : (b c : Option Files) (s r : Stage) (name : List ℕ) → r ≡ s → tells c ≡ tells b → WritesTo b s name → WritesTo c r name
writes-still b c s r name e t w = e ∙ (w ∙ ap (λ (x : Bool). Writing (cond x (Some name) None)) (sym t))

-- a slice to the end is the rest, so what was written of it is a front of the rest
pub rest-within : (d n : ℕ) (piece : List ℕ) → d ≤ length piece → n ≤ length (take (length piece - d) (drop d piece)) → d + n ≤ length piece
rest-within d n piece le within =
    let e = to_end d piece le in
    let within' : n ≤ length (drop d piece) = rw e at within in
    omega (arith, length-drop d piece)
