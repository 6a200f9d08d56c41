-- The texts of tokens; those of words are names.
use Rattle.std.specs.Prelude.{◌≡◌, ℕ, ◌-◌, List, take, drop, IsTrue}
use Rattle.brace_num.specs.Names.{is_name}
use Rattle.brace_tok.specs.declared.kinds.Token.{Token}
use Rattle.brace_tok.specs.declared.kinds.TokKind.TheVariants as kind

-- the bytes of the source that spell the token
abbrev pub text_at : List ℕ → Token → List ℕ
text_at src tok = take (tok.to - tok.from) (drop tok.from src)

-- where the token is a word, its text is a name
abbrev pub IsNamed : List ℕ → Token → Type 0
IsNamed src tok = tok.kind ≡ kind.Word → IsTrue (is_name (text_at src tok))
