-- That a bench may go to another thread: its members hold a program of their own, and borrow the
-- setting. A field's type is named by `the_field`, and the same in a list or an option by `the_row`.
use denote.Param.Send.{IsSend, IsSync, recorded_send, recorded_sync, struct_send, struct_sync, view_send, sendable}
use Rattle.std.proofs.Crossing.{crosses}
use Rattle.brace_num.proofs.list.List.TheSendSync as list
use Rattle.brace_num.proofs.boxed.Boxed.TheSendSync as boxed
use Rattle.brace_num.proofs.text.Text.TheSendSync as text
use Rattle.brace_model.specs.contracts.program.Expr as Expr
use Rattle.brace_model.specs.contracts.program.Stmt as Stmt
use Rattle.brace_model.specs.contracts.program.State as State
use Rattle.brace_model.specs.contracts.program.Spawn as Spawn
use Rattle.brace_model.specs.contracts.program.Class as Class
use Rattle.brace_model.specs.contracts.program.Program as Program
use Rattle.brace_model.specs.contracts.job.Job as Job
use Rattle.brace_model.proofs.program.Expr.TheLaws.TheKnot as expr
use Rattle.brace_model.proofs.program.Stmt.TheLaws.TheKnot as stmt
use Rattle.brace_model.proofs.program.Effect.TheSendSync as effect
use Rattle.brace_model.proofs.world.World.TheSendSync as world
use Rattle.brace_cuts.proofs.plan.CutPlan.TheSendSync as plan
use Rattle.brace_pieces.specs.contracts.setting.Setting as Setting
use Rattle.brace_model.specs.contracts.program.Gift as Gift
use Rattle.brace_num.specs.contracts.list.List as List
use Rattle.brace_pieces.specs.contracts.course.Course as Course
use Rattle.brace_pieces.specs.contracts.turns.Turns as Turns
use Rattle.brace_code.specs.contracts.code.Code as Code
use Rattle.brace_code.specs.contracts.code.Instr as Instr
use Rattle.brace_code.proofs.code.Instr.TheLaws.TheKnot as instr
use Rattle.brace_plan.specs.contracts.action.Action as Action
use Rattle.brace_plan.specs.contracts.plans.Planned as Planned
use Rattle.brace_plan.specs.contracts.plans.Plans as Plans
use Rattle.brace_plan.specs.contracts.plans.Plans.TheInside as plans
use Rattle.brace_plan.specs.contracts.rules.Rules as Rules
use Rattle.brace_plan.proofs.action.Action.TheLaws.TheKnot as action
use Rattle.brace_plan.proofs.action.Bound.TheSendSync as bound
use Rattle.brace_plan.proofs.loops.Loop.TheSendSync as loop
use Rattle.brace_herd.specs.contracts.query.Queries as Queries
use Rattle.brace_part.specs.contracts.part.Part as Part
use Rattle.brace_part.proofs.standing.Standing.TheSendSync as standing
use denote.Struct.Declared.{shape}
use Rattle.brace_pieces.specs.contracts.piece.Piece as Piece
use Rattle.brace_pieces.proofs.piece.Piece.TheSendSync as piece
use Rattle.brace_part.specs.contracts.standing.Standing as Standing
use Rattle.brace_desk.specs.contracts.desk.Desk as Desk
use Rattle.brace_desk.specs.contracts.desk.Desk.TheInside as desk
use Rattle.brace_crew.specs.contracts.member.Member as Member
use Rattle.brace_crew.specs.contracts.bench.Bench as Bench
use Rattle.brace_desk.specs.contracts.desk.Lot as Lot
use Rattle.brace_desk.specs.declared.publisher.Publisher.{Ghosts}
use Rattle.brace_desk.proofs.desk.Lot.TheSendSync as lot
use Rattle.brace_desk.proofs.publisher.PubFault.TheSendSync as fault
use Rattle.brace_lanes.proofs.end.LaneEnd.TheSendSync as end
use denote.Ref.{NamedLft}
use denote.RattleType.{RattleType}
use Rattle.brace_model.specs.contracts.program.Effect as Effect
use Rattle.brace_model.specs.contracts.world.World as World
use Rattle.brace_cuts.specs.contracts.plan.CutPlan as Plan

-- ---- the setting may be read by several threads

list_sync : (T : RattleType) → IsSync T → IsSync (List.the_row T)
list_sync T y = search (list.the_sync, crosses, sendable) depth 60 fits 20000

expr_sync : IsSync (Expr.the_field).row
expr_sync = search (boxed.the_sync, expr.crosses, sendable) depth 60 fits 20000

expr_row_sync : IsSync Expr.the_row
expr_row_sync = search (boxed.the_sync, expr.crosses, sendable) depth 60 fits 20000

gift_sync : IsSync Gift.the_row
gift_sync = search (expr_sync, sendable) depth 60 fits 20000

stmt_sync : IsSync Stmt.the_row
stmt_sync = search (boxed.the_sync, list_sync, stmt.crosses, expr.crosses, crosses, sendable) depth 60 fits 20000

state_sync : IsSync State.the_row
state_sync = search (text.the_sync, expr_row_sync, sendable) depth 60 fits 20000

spawn_row_sync : IsSync Spawn.the_row
spawn_row_sync = search (gift_sync, list_sync, expr_sync, sendable) depth 60 fits 20000

effects_sync : IsSync (List.the_row Effect.the_row)
effects_sync = search (list_sync, effect.the_sync, sendable) depth 60 fits 20000

states_sync : IsSync (List.the_row State.the_row)
states_sync = search (list_sync, state_sync, sendable) depth 60 fits 20000

class_sync : IsSync Class.the_row
class_sync =
    recorded_sync _ _ _ (Class.the_type).to_one (struct_sync (shape Class.the_type) (
      search (text.the_sync, sendable) depth 20,
      (
        search sendable depth 20,
        (
          search sendable depth 20,
          (
            search sendable depth 20,
            (
              search sendable depth 20,
              (
                search (states_sync, sendable) depth 20,
                (search (effects_sync, sendable) depth 20, (search (list_sync, stmt_sync, sendable) depth 20, (search (expr_row_sync, sendable) depth 20, (search (spawn_row_sync, sendable) depth 20, tt)))),
              ),
            ),
          ),
        ),
      ),
    ))

program_sync : IsSync (Program.the_field).row
program_sync = search (list_sync, class_sync, sendable) depth 60 fits 20000

world_sync : IsSync (World.the_field).row
world_sync = search (world.the_sync, crosses, sendable) depth 60

job_sync : IsSync (Job.the_field).row
job_sync = search (program_sync, world_sync, sendable) depth 60 fits 20000

plan_sync : IsSync (Plan.the_field).row
plan_sync = search (plan.the_field_sync, sendable) depth 60

setting_row : IsSync Setting.the_row
setting_row = search (job_sync, plan_sync, sendable) depth 60 fits 20000

-- ---- a program may go to another

list_send : (T : RattleType) → IsSend T → IsSend (List.the_row T)
list_send T y = search (list.the_send, crosses, sendable) depth 60 fits 20000

expr_send : IsSend (Expr.the_field).row
expr_send = search (boxed.the_send, expr.crosses, sendable) depth 60 fits 20000

expr_row_send : IsSend Expr.the_row
expr_row_send = search (boxed.the_send, expr.crosses, sendable) depth 60 fits 20000

gift_send : IsSend Gift.the_row
gift_send = search (expr_send, sendable) depth 60 fits 20000

stmt_send : IsSend Stmt.the_row
stmt_send = search (boxed.the_send, list_send, stmt.crosses, expr.crosses, crosses, sendable) depth 60 fits 20000

state_send : IsSend State.the_row
state_send = search (text.the_send, expr_row_send, sendable) depth 60 fits 20000

spawn_row_send : IsSend Spawn.the_row
spawn_row_send = search (gift_send, list_send, expr_send, sendable) depth 60 fits 20000

effects_send : IsSend (List.the_row Effect.the_row)
effects_send = search (list_send, effect.the_send, sendable) depth 60 fits 20000

states_send : IsSend (List.the_row State.the_row)
states_send = search (list_send, state_send, sendable) depth 60 fits 20000

class_send : IsSend Class.the_row
class_send =
    recorded_send _ _ _ (Class.the_type).to_one (struct_send (shape Class.the_type) (
      search (text.the_send, sendable) depth 20,
      (
        search sendable depth 20,
        (
          search sendable depth 20,
          (
            search sendable depth 20,
            (
              search sendable depth 20,
              (
                search (states_send, sendable) depth 20,
                (search (effects_send, sendable) depth 20, (search (list_send, stmt_send, sendable) depth 20, (search (expr_row_send, sendable) depth 20, (search (spawn_row_send, sendable) depth 20, tt)))),
              ),
            ),
          ),
        ),
      ),
    ))

program_send : IsSend (Program.the_field).row
program_send = search (list_send, class_send, sendable) depth 60 fits 20000

-- ---- and so may its plans

instr_send : IsSend Instr.the_row
instr_send = search (list_send, instr.crosses, crosses, sendable) depth 60 fits 20000

action_send : IsSend Action.the_row
action_send = search (list_send, action.crosses, instr_send, instr.crosses, bound.the_send, crosses, sendable) depth 60 fits 20000

planned_send : IsSend Planned.the_row
planned_send = search (list_send, action_send, sendable) depth 60 fits 20000

code_send : IsSend Code.the_row
code_send = search (list_send, instr_send, sendable) depth 60 fits 20000

rules_send : IsSend Rules.the_row
rules_send =
    recorded_send _ _ _ (Rules.the_type).to_one (struct_send (shape Rules.the_type) (
      search (list_send, code_send, sendable) depth 30,
      (search (code_send, sendable) depth 30, (search (code_send, sendable) depth 30, (search (list_send, code_send, sendable) depth 30, tt))),
    ))

plans_inside : IsSend plans.the_row
plans_inside =
    recorded_send _ _ _ plans.the_type.to_one (struct_send (shape plans.the_type) (
      search (program_send, sendable) depth 30,
      (
        search (list_send, planned_send, sendable) depth 30,
        (search (list_send, loop.the_send, sendable) depth 30, (search (list_send, rules_send, sendable) depth 30, tt)),
      ),
    ))

plans_send : IsSend Plans.the_row
plans_send = view_send plans.the_row _ _ _ _ plans_inside

queries_send : IsSend (Queries.the_field).row
queries_send = search (plans_send, sendable) depth 60 fits 20000

-- ---- and so may members

course_send : (κ : NamedLft) → IsSend (Course.the_field κ).row
course_send κ = search (setting_row, crosses, sendable) depth 60 fits 20000

turns_send : (κ : NamedLft) → IsSend (Turns.the_field κ).row
turns_send κ = search (course_send, crosses, sendable) depth 60 fits 20000

standing_send : IsSend (Standing.the_field).row
standing_send = search (standing.the_field_send, crosses, sendable) depth 60 fits 20000

part_send : (κ : NamedLft) → IsSend (Part.the_field κ).row
part_send κ = search (turns_send, standing_send, queries_send, crosses, sendable) depth 60 fits 20000

piece_row : IsSend Piece.the_row
piece_row = search (piece.the_send, crosses, sendable) depth 60 fits 20000

lot_send : IsSend Lot.the_row
lot_send = search (lot.the_send, sendable) depth 60 fits 20000

module _ (κ : NamedLft) (P : RattleType) (of : Ghosts P.Denot) (sent : IsSend P) where
  desk_inside : IsSend (desk.the_row κ P of)
  desk_inside =
      recorded_send _ _ _ (desk.the_type κ P of).to_one (struct_send (shape (desk.the_type κ P of)) (
        search (crosses, sendable) depth 30,
        (
          search (turns_send, sendable) depth 30,
          (
            search (crosses, sendable) depth 30,
            (
              search (sent, sendable) depth 30,
              (
                search (fault.the_send, sendable) depth 30,
                (search sendable depth 30, (search (lot_send, crosses, sendable) depth 30, (search sendable depth 30, (search (crosses, sendable) depth 30, tt)))),
              ),
            ),
          ),
        ),
      ))

  desk_send : IsSend (Desk.the_field κ P of).row
  desk_send = view_send (desk.the_row κ P of) _ _ _ _ desk_inside

  member_send : IsSend (Member.the_row κ P of)
  member_send = search (part_send, desk_send, sendable) depth 60 fits 20000

  -- a bench, where its publisher may
  pub bench_send : IsSend (Bench.the_row κ P of)
  bench_send = search (member_send, end.the_field_send, piece_row, crosses, sendable) depth 60 fits 20000
