-- Helper: nobody has to believe this; what the loop of `play_on` answers.
-- What the loop of `play_on` answers.
use Rattle.std.specs.Prelude.{false, eqb}
use Rattle.arith.specs.Pick.{pick, both}
use Rattle.play_rules.specs.declared.Player.{Player}
use Rattle.play_step.specs.declared.Taken.{Taken}
use Rattle.play.specs.declared.Played.{Played}

-- what the loop came to: the refusal, where no line was written before it; else the lines
unfoldable pub answer_of : Player → Taken → Played
answer_of p t =
    pick (both (eqb t.kind 2) (eqb t.at 0))
    (record { number = t.number; place = t.place; player = p; length = 0; over = false })
    (record { number = 0; place = 0; player = t.player; length = t.at; over = eqb t.kind 1 })
