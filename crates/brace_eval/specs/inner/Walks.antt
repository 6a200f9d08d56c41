-- Where the walk over a query stands: its agents, and its constants, which are set and set back.
-- Only the crate's own functions cite this.
use Rattle.std.specs.Prelude.{ℕ, List, [], ◌∷◌, map, slice_set, Bool, false, option_copied, Some}
use Rattle.brace_model.specs.declared.program.Value.{Value}
use Rattle.brace_model.specs.declared.program.Value.TheVariants.{Flag}
use Rattle.brace_model.specs.declared.program.Expr.{Expr}
use Rattle.brace_model.specs.declared.program.Stmt.{Stmt}
use Rattle.brace_model.specs.declared.program.Class.{Class}
use Rattle.brace_model.specs.declared.world.Agent.{Agent}
use Rattle.brace_model.specs.Value.{Scope, value}
use Rattle.brace_model.specs.Query.{Deed, silent, deed_of, block, inside, iterated, seen_by, statement, query_in, query_of}
use Rattle.brace_eval.specs.declared.ledger.Ledger.{Ledger}
use Rattle.brace_eval.specs.declared.scene.Scene.{Scene}
use Rattle.brace_eval.specs.declared.seat.Seat.{Seat}
use Rattle.brace_eval.specs.declared.seat.Bound.{Bound}
use Rattle.brace_eval.specs.Heard.{said_by, faults_by}
use Rattle.brace_eval.specs.inner.Tables.{Notes, NotesDeed}

-- the scope of a seat with these constants, and no totals
abbrev pub scope_at : Seat → ℕ → List Value → Scope
scope_at seat seed locals = record {
  tick = seat.tick;
  seed = seed;
  this = seat.this.now;
  outer = option_copied seat.outer;
  inner = option_copied seat.inner;
  locals = locals;
  totals = [];
}

-- the constants before some were bound, the last one first
abbrev pub undone : List Bound → List Value → List Value
undone [] locals = locals
undone (b ∷ trail) locals = slice_set (undone trail locals) b.place b.before

-- a value is the flag `true`
abbrev pub is_true : Value → Bool
is_true (Flag b) = b
is_true _ = false

-- what an expression comes to at a seat: a value, after which nothing is done, or its fault
abbrev pub worth_at : Seat → Ledger → List Value → Expr → Deed
worth_at seat ledger locals e =
    let scope = scope_at seat ledger.drawer.seed locals in
    deed_of scope (value e scope) (λ _. silent scope)

-- what a statement does at a seat
abbrev pub deed_at : Scene → Seat → Ledger → List Value → Stmt → Deed
deed_at scene seat ledger locals s =
    statement scene.program.now scene.agents.now s (scope_at seat ledger.drawer.seed locals)

-- what a block does in a scope
abbrev pub block_in : Scene → List Stmt → Scope → Deed
block_in scene body = block (map (statement scene.program.now scene.agents.now) body)

-- what a block does at a seat
abbrev pub block_at : Scene → Seat → Ledger → List Value → List Stmt → Deed
block_at scene seat ledger locals body =
    block_in scene body (scope_at seat ledger.drawer.seed locals)

-- what a loop over a class does at a seat
abbrev pub loop_at : Scene → Seat → Ledger → List Value → ℕ → List Stmt → Deed
loop_at scene seat ledger locals class body =
    let scope = scope_at seat ledger.drawer.seed locals in
    let seen = seen_by scene.program.now scene.agents.now seat.this.now class in
    iterated scope (map (λ b. block_in scene body (inside scope b)) seen)

-- a ledger came to stand for what an expression comes to, too
abbrev pub NotesWorth : Scene → Seat → List Value → Expr → Ledger → Ledger → Type 0
NotesWorth scene seat locals e before after =
    NotesDeed scene (worth_at seat before locals e) before after

-- a ledger came to stand for what a statement does, too
abbrev pub NotesStatement : Scene → Seat → List Value → Stmt → Ledger → Ledger → Type 0
NotesStatement scene seat locals s before after =
    NotesDeed scene (deed_at scene seat before locals s) before after

-- a ledger came to stand for what a block does, too
abbrev pub NotesBlock : Scene → Seat → List Value → List Stmt → Ledger → Ledger → Type 0
NotesBlock scene seat locals body before after =
    NotesDeed scene (block_at scene seat before locals body) before after

-- a ledger came to stand for what a loop over a class does, too
abbrev pub NotesLoop : Scene → Seat → List Value → ℕ → List Stmt → Ledger → Ledger → Type 0
NotesLoop scene seat locals class body before after =
    NotesDeed scene (loop_at scene seat before locals class body) before after

-- a ledger came to stand for the query of an agent of a class, too
abbrev pub NotesQueryIn : Scene → Class → ℕ → Agent → Ledger → Ledger → Type 0
NotesQueryIn scene class tick this before after =
    let world = scene.agents.now in
    NotesDeed scene
    (query_in scene.program.now before.drawer.seed tick world this (Some class)) before after

-- a ledger came to stand for the query of an agent, too
abbrev pub NotesQuery : Scene → ℕ → Agent → Ledger → Ledger → Type 0
NotesQuery scene tick this before after =
    let world = scene.agents.now in
    NotesDeed scene (query_of scene.program.now before.drawer.seed tick world this) before after

-- a ledger came to stand for the queries of some agents, too
abbrev pub NotesQueries : Scene → ℕ → List Agent → Ledger → Ledger → Type 0
NotesQueries scene tick asking before after =
    let seed = before.drawer.seed in
    Notes scene (said_by scene.program.now seed tick scene.agents.now asking)
    (faults_by scene.program.now seed tick scene.agents.now asking) before after
