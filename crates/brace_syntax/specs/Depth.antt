-- How deep a script nests, told by its tokens alone.
use Rattle.std.specs.Prelude.{◌≡◌, ◌+◌, ◌-◌, ◌≤◌, ◌||◌, ℕ, nat_lt, Bool, true, false, List, fold, take, slice_get, Some}
use Rattle.brace_tok.specs.declared.kinds.Token.{Token}
use Rattle.brace_tok.specs.declared.kinds.TokKind.{TokKind}
use Rattle.brace_tok.specs.declared.kinds.TokKind.TheVariants as k

-- how many brackets are open after a token
abbrev pub opened_by : ℕ → TokKind → ℕ
opened_by n k.OpenParen = n + 1
opened_by n k.OpenBrace = n + 1
opened_by n k.CloseParen = n - 1
opened_by n k.CloseBrace = n - 1
opened_by n _ = n

-- how many operators have come in a statement after a token
abbrev pub counted_by : ℕ → TokKind → ℕ
counted_by n k.Question = n + 1
counted_by n k.OrOr = n + 1
counted_by n k.AndAnd = n + 1
counted_by n k.EqEq = n + 1
counted_by n k.NotEq = n + 1
counted_by n k.Less = n + 1
counted_by n k.LessEq = n + 1
counted_by n k.Greater = n + 1
counted_by n k.GreaterEq = n + 1
counted_by n k.Plus = n + 1
counted_by n k.Minus = n + 1
counted_by n k.Star = n + 1
counted_by n k.Slash = n + 1
counted_by n k.Percent = n + 1
counted_by n k.Not = n + 1
counted_by n k.Semicolon = 0
counted_by n k.OpenBrace = 0
counted_by n k.CloseBrace = 0
counted_by n _ = n

-- how many brackets these tokens leave open
abbrev pub opened : List Token → ℕ
opened = fold (λ n tok. opened_by n tok.kind) 0

-- how many operators have come since the last `;`, `{` or `}` of these tokens
abbrev pub operators : List Token → ℕ
operators = fold (λ n tok. counted_by n tok.kind) 0

-- more than 64 brackets are open, or more than 256 operators have come
abbrev pub is_deep : List Token → Bool
is_deep toks = nat_lt 64 (opened toks) || nat_lt 256 (operators toks)

-- no front of the tokens is too deep
abbrev pub NowhereDeep : List Token → Type 0
NowhereDeep toks = (n : ℕ) → is_deep (take n toks) ≡ false

-- at this place stands the first token up to and including which the tokens are too deep
pub record FirstDeepAt (toks : List Token) (at : ℕ) : Type 0 where
  pub number : ℕ
  pub token : Token
  pub stands : slice_get toks number ≡ Some token
  pub place : token.from ≡ at
  pub deep : is_deep (take (number + 1) toks) ≡ true
  pub first : (n : ℕ) → n ≤ number → is_deep (take n toks) ≡ false
