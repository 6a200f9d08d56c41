-- The agent of a scene that a search of the ids found.
use Rattle.std.proofs.Common.{◌≡◌, ◌∙◌, subst, ℕ, ◌<◌, List, length, get_or, Ok}
use Rattle.std.specs.List.Sorted.{IsBinarySearchResult}
use Rattle.std.specs.Ordering.{nat_cmp}
use Rattle.brace_model.specs.World.{ids}
use Rattle.brace_eval.specs.declared.scene.Scene.{Scene}
use Rattle.brace_eval.specs.inner.Tables.{IsScene}
use Rattle.brace_eval.proofs.TableLemmas.{search-some}

pub found-agent : (scene : Scene) (stands : IsScene scene) (id : ℕ) (items : List ℕ) (i : ℕ) → items ≡ scene.ids.items
    → IsBinarySearchResult (λ y. nat_cmp y id) items (Ok i)
    → (i < length scene.agents.now) × (get_or (ids scene.agents.now) i 0 ≡ id)
found-agent scene stands id items i same found =
    search-some scene.agents.now stands.rises id i
    (subst (λ (l : List ℕ). IsBinarySearchResult (λ y. nat_cmp y id) l (Ok i)) (same ∙ stands.ids) found)
