-- The texts that tell cuts and why no load is lower: one line each, ended by byte 10. Byte 32 is
-- the space.
use Rattle.std.specs.Prelude.{ℕ, ℤ, List, [], ◌∷◌, ◌++◌, codes, flat_map}
use Rattle.brace_num.specs.Spelling.{canonical_count, canonical_fixed}
use Rattle.brace_balance.specs.declared.kinds.Proof.{Proof}
use Rattle.brace_balance.specs.declared.kinds.Proof.TheVariants.{Empty, Stack, Posts}

-- numbers, each behind a space
abbrev pub spaced : List ℤ → List ℕ
spaced numbers = flat_map (λ v. 32 ∷ canonical_fixed v) numbers

-- the line of a cut plan with these cuts along x, from tick 0 on
abbrev pub plan_line : List ℤ → List ℕ
plan_line cuts = codes "at 0 x" ++ spaced cuts ++ codes " y\n"

-- a proof behind a load
abbrev pub reason : Proof → List ℕ
reason Empty = codes " empty"
reason (Stack p) = codes " stack" ++ spaced (p ∷ [])
reason (Posts posts) = codes " posts" ++ spaced posts

-- the certificate of a load
abbrev pub certificate : ℕ → Proof → List ℕ
certificate n proof = codes "load " ++ canonical_count n ++ reason proof ++ codes "\n"
