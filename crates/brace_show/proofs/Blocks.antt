-- The lines of a block behind a margin that is known.
use Rattle.std.proofs.Common.{◌≡◌, ◌∙◌, ap, ℕ, List, [], ◌++◌}
use Rattle.brace_show.specs.Canonical.{block, deeper, line}

-- the lines of a query behind the margin of members
pub run_lines : (out printed margin head end : List ℕ) (statements : List (List ℕ → List ℕ)) → margin ≡ deeper []
    → printed ≡ out ++ (line margin head ++ block statements margin ++ line margin end)
    → printed ≡ out ++ (line (deeper []) head ++ block statements (deeper []) ++ line (deeper []) end)
run_lines out printed margin head end statements e all =
    all ∙ ap (λ m. out ++ (line m head ++ block statements m ++ line m end)) e
