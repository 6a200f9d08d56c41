-- Where an entry belongs among rising ones.
use Rattle.std.specs.Prelude.{◌≡◌, ℕ, ◌≤◌, List, false, length, take, drop}
use Rattle.std.specs.List.{All}
use Rattle.std.specs.Ordering.{is_lt}
use Rattle.std.specs.declared.cmp.Ordering.TheVariants.{Less}
use Rattle.brace_comb.specs.declared.entry.Entry.{Entry}
use Rattle.brace_comb.specs.Entries.{by_place}

-- so many entries stand before an entry, by its place, and none behind them does
pub record IsRank (entries : List Entry) (entry : Entry) (rank : ℕ) : Type 0 where
  pub within : rank ≤ length entries
  pub before : All (λ e. by_place e entry ≡ Less) (take rank entries)
  pub behind : All (λ e. is_lt (by_place e entry) ≡ false) (drop rank entries)
