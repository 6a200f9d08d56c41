-- The canonical text of a script that was read is read back as that script, apart from places.
use Rattle.std.proofs.Common.{◌≡◌, refl, sym, ap, ◌∙◌, subst, ℕ, List}
use Rattle.brace_tok.specs.Spells.{Spells, tokens_from}
use Rattle.brace_tok.specs.declared.kinds.Token.{Token}
use Rattle.brace_tok.proofs.Unique.{one_list}
use Rattle.brace_syntax.specs.declared.tree.Tree.{Tree}
use Rattle.brace_syntax.specs.Reads.{Reads}
use Rattle.brace_syntax.proofs.ClassFound.{one_tree}
use Rattle.brace_show.specs.Back.{ReadsBack}
use Rattle.brace_show.specs.Canonical.{canonical}
use Rattle.brace_show.proofs.Rows.{script_row}
use Rattle.brace_show.proofs.SoundReadings.{readings_are_sound}
use Rattle.brace_show.proofs.RowText.{row_text}
use Rattle.brace_show.proofs.RowStands.{row_stands}
use Rattle.brace_show.proofs.RowReads.{row_reads}
use Rattle.brace_show.proofs.Unplaced.{one_text}

pub canonical_reads_back : (src : List ℕ) (toks : List Token) (tree : Tree) → Spells src toks → Reads src toks tree → ReadsBack (canonical tree) tree
canonical_reads_back src toks tree spelled read =
    let sound = readings_are_sound src toks tree spelled read in
    let r = row_reads tree sound in
    let found : List Token = tokens_from 0 (script_row tree) in
    (found, r.0, (script_row tree, sym (row_text tree), row_stands tree sound, refl), subst (λ text. Reads text found r.0) (row_text tree) r.1, r.2)

-- the same of a text that is the canonical one
pub shown_reads_back : (text : List ℕ) (tree : Tree) → text ≡ canonical tree → (src : List ℕ) (toks : List Token) → Spells src toks → Reads src toks tree → ReadsBack text tree
shown_reads_back text tree e src toks spelled read = subst (λ t. ReadsBack t tree) (sym e) (canonical_reads_back src toks tree spelled read)

-- whatever script the canonical text is read as, it has that text
pub shown_again : (src : List ℕ) (toks : List Token) (tree : Tree) → Spells src toks → Reads src toks tree → (again : List Token) (back : Tree) → Spells (canonical tree) again → Reads (canonical tree) again back
    → canonical back ≡ canonical tree
shown_again src toks tree spelled read again back spelled_again read_again =
    let r = canonical_reads_back src toks tree spelled read in
    let same_toks : r.0 ≡ again = one_list (canonical tree) r.0 again r.2 spelled_again in
    let same_tree : r.1 ≡ back = one_tree (canonical tree) again r.1 back (subst (λ z. Reads (canonical tree) z r.1) same_toks r.3) read_again in
    sym (one_text tree r.1 r.4 ∙ ap canonical same_tree)
