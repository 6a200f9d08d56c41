use Rattle.std.proofs.Common.{◌≡◌, ℕ, ◌<◌, Some, slice_get}
use Rattle.brace_wire.specs.Links.{OnLink, received}
use Rattle.brace_wire.proofs.wire_lanes.WireLanes.is_quiet.Given as goal

-- those before are quiet
abbrev pub invariant-loop-link : goal.invariant-loop-link
invariant-loop-link l = (i : ℕ) (link : OnLink) → i < l.link-index → slice_get l.self.links i ≡ Some link → link.put ≡ received link.receiver
