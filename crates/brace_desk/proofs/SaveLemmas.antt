-- What a shelf holds once a file is saved whole.
use Rattle.std.proofs.Common.{◌≡◌, ◌≢◌, ◌∙◌, ℕ, List, Option, Some, None, Bool, true, false, ap, refl, subst, if◌then◌else◌}
use Rattle.std.proofs.Math.Path.{fun_ext}
use Rattle.std.proofs.lemmas.Bool.{false≢true, true≢false}
use Rattle.std.proofs.lemmas.Slice.Eq.{bytes_eq-Decides}
use Rattle.std.specs.Str.{bytes_eq}
use Rattle.brace_io.specs.Shelves.{Files, Holds, OnlyAt}
use Rattle.brace_desk.specs.Shows.{Named}
use Rattle.brace_desk.specs.Filed.{held_after}

-- a name of those that are held
held_here : (before after : Files) (file : Named) (name : List ℕ) (same : Bool) → (same ≡ true → name ≡ file.0) → (name ≡ file.0 → same ≡ true)
    → (name ≢ file.0 → after name ≡ before name) → after file.0 ≡ Some file.1
    → after name ≡ (if same then Some file.1 else before name)
held_here before after file name true is isnt others bytes = ap after (is refl) ∙ bytes
held_here before after file name false is isnt others bytes = others (λ e. false≢true (isnt e))

-- the file is as it was saved, and the others are as before
pub held_whole : (before after : Option Files) (file : Named) → OnlyAt before after file.0 → Holds after file.0 file.1 → after ≡ held_after (Some file) before
held_whole None None file only bytes = refl
held_whole None (Some after) file only bytes = absurd (true≢false only.0)
held_whole (Some before) None file only bytes = absurd (false≢true only.0)
held_whole (Some before) (Some after) file only bytes =
    ap Some (fun_ext (λ (name : List ℕ). held_here before after file name (bytes_eq name file.0) (bytes_eq-Decides name file.0).0 (bytes_eq-Decides name file.0).1 (only.1 name) (bytes refl)))

-- the same, where the name and the bytes were read from the file
pub held_named : (before after : Option Files) (file : Named) (name bytes : List ℕ) → name ≡ file.0 → bytes ≡ file.1 → OnlyAt before after name → Holds after name bytes
    → after ≡ held_after (Some file) before
held_named before after file name bytes n b only holds =
    held_whole before after file (subst (λ (l : List ℕ). OnlyAt before after l) n only)
    (subst (λ (l : List ℕ). Holds after file.0 l) b (subst (λ (l : List ℕ). Holds after l bytes) n holds))
