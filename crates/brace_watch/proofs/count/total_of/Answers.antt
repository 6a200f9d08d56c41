use Rattle.std.proofs.Common.{◌≡◌, ◌∙◌, refl, ℤ, pos, get_or, true, false, sym, to_z, of_z, w64, arith, rules}
use Rattle.std.specs.Int.{w128}
use Rattle.brace_model.specs.declared.program.Value.TheVariants.{Int}
use Rattle.brace_model.specs.Total.{joined}
use Rattle.brace_watch.proofs.Counting.{counted_more}
use Rattle.brace_watch.proofs.count.total_of.Goals as goal
use Rattle.brace_watch.proofs.count.total_of.Goals.{then-meets+in_ok-number, else-meets}

pub loop-i-preserved : goal.loop-i-preserved
loop-i-preserved c =
    let watch = c.args.watch.now in
    let tests = c.args.tests.now in
    let numbers = c.args.numbers.now in
    let i = c.loop-i.i in
    let t : ℤ = to_z w64 (of_z w64 (get_or tests i (pos 0))) in
    let f : ℤ = get_or numbers i (pos 0) in
    let before : ℤ = to_z w128 c.loop-i.number-bits in
    let now : ℤ = to_z w128 c.if-meets.number-bits in
    let test : t ≡ get_or tests i (pos 0) = search rules in
    record {
      few = elim c.if-meets.branch [
        | then-meets+in_ok-number w ↦ omega (arith, w.count-is, c.loop-i.invariant.few)
        | else-meets w ↦ search rules
      ];
      so_far = λ agents tests_are numbers_are. elim c.if-meets.branch [
        | then-meets+in_ok-number w ↦
            let more : now ≡ joined watch.kind before (Int f) = search rules in
            counted_more watch agents tests numbers i (pos 0) t f before now c.loop-i.count
            c.if-meets.count true test refl tests_are numbers_are (search rules)
            (λ a read. sym w.if-meets.true ∙ c.meets.ensures a read) more (search rules)
            (c.loop-i.invariant.so_far agents tests_are numbers_are)
        | else-meets w ↦
            counted_more watch agents tests numbers i (pos 0) t f before now c.loop-i.count
            c.if-meets.count false test refl tests_are numbers_are (search rules)
            (λ a read. sym w.if-meets.false ∙ c.meets.ensures a read) (search rules) (search rules)
            (c.loop-i.invariant.so_far agents tests_are numbers_are)
      ];
    }
