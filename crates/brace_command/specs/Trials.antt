-- A trial: the program's own script and its cut plan, and the line that tells its last world.
use Rattle.std.specs.Prelude.{ℕ, ◌*◌, List, [], ◌∷◌, ◌++◌, codes, map, ℤ, pos, ◌+ℤ◌}
use Rattle.brace_num.specs.Spelling.{canonical_count, canonical_int}
use Rattle.brace_cuts.specs.declared.plan.CutLine.{CutLine}
use Rattle.brace_cuts.specs.declared.plan.CutPlan.{CutPlan}

-- the script: fish that turn with those around them, and keep apart
abbrev pub trial_script : List ℕ
trial_script =
    codes "class Fish {\n"
    ++ codes "  #visible[10.0];\n"
    ++ codes "  #reach[2.0];\n"
    ++ codes "  public state fixed x : x + vx + px;\n"
    ++ codes "  public state fixed y : y + vy + py;\n"
    ++ codes "  public state fixed vx : max(-1.0, min(1.0, "
    ++ codes "(n > 0 ? sx / fixed(n) : vx) + rand() - 0.5));\n"
    ++ codes "  public state fixed vy : max(-1.0, min(1.0, "
    ++ codes "(n > 0 ? sy / fixed(n) : vy) + rand() - 0.5));\n"
    ++ codes "  public effect fixed sx : sum;\n"
    ++ codes "  public effect fixed sy : sum;\n"
    ++ codes "  public effect fixed px : sum;\n"
    ++ codes "  public effect fixed py : sum;\n"
    ++ codes "  public effect int n : count;\n"
    ++ codes "  public void run() {\n"
    ++ codes "    foreach (Fish p : Extent<Fish>) {\n"
    ++ codes "      sx <- p.vx;\n"
    ++ codes "      sy <- p.vy;\n"
    ++ codes "      n <- true;\n"
    ++ codes "      const fixed dx = p.x - x;\n"
    ++ codes "      const fixed dy = p.y - y;\n"
    ++ codes "      if (abs(dx) < 1.0 && abs(dy) < 1.0) {\n"
    ++ codes "        p.px <- dx / 4.0;\n"
    ++ codes "        p.py <- dy / 4.0;\n"
    ++ codes "      }\n"
    ++ codes "    }\n"
    ++ codes "  }\n"
    ++ codes "}\n"

-- eight strips of the same breadth: the cuts along x at 125, 250 up to 875 units, in millionths
abbrev pub strips : List ℤ
strips =
    pos 125000000 ∷ pos 250000000 ∷ pos 375000000 ∷ pos 500000000 ∷ pos 625000000
    ∷ pos 750000000 ∷ pos 875000000 ∷ []

-- a line of a plan that cuts the plane along x alone
abbrev pub along_x : ℕ → List ℤ → CutLine
along_x tick xs = record { tick = tick; cuts = record { xs = xs; ys = [] } }

-- the plane in eight strips; from the end of the first epoch on, their cuts lie 5 units further,
-- and from the end of the second on where they lay
abbrev pub trial_plan : ℕ → CutPlan
trial_plan epoch = record {
  lines =
      along_x 0 strips
      ∷ along_x epoch (map (λ x. x +ℤ pos 5000000) strips)
      ∷ along_x (2 * epoch) strips
      ∷ [];
}

-- `trial agents N ticks T x SX y SY` and a line feed, with the sums of x and of y over the agents
-- of a world, in millionths
abbrev pub trial_line : ℕ → ℕ → ℤ × ℤ → List ℕ
trial_line count ticks sums =
    codes "trial agents " ++ canonical_count count
    ++ codes " ticks " ++ canonical_count ticks
    ++ codes " x " ++ canonical_int sums.0
    ++ codes " y " ++ canonical_int sums.1
    ++ 10 ∷ []
