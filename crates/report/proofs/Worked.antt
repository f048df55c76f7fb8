-- The lines that the paper prints: "The loom step worked through", and the refusals of P6 and P8.
use mathlib.Core.Bool.{true}
use mathlib.Core.List.{[], ◌∷◌}
use mathlib.Core.Path.{◌≡◌, refl}
use lib.ListN.{set, replicate}
use Rattle.state.specs.States.{empty_task, empty_state, at_state, with_task, with_logged}
use Rattle.text.specs.Text.{bytes_of, decimal_of, joined}
use Rattle.report.specs.Report.{refusal, report}

pub loom_step : report (set (replicate 128 0) 8 6) 3 0 13 true (with_logged (with_task empty_state 1 (at_state empty_task 1)) 1) (1 ∷ 0 ∷ [])
    ≡ bytes_of "answer 0 delivered 13 log 1 quiet yes\nfire gate 1 vector 0 tasks 6\nstate 0 1 0\n"
unfolding report joined decimal_of
loom_step = refl

pub empty_table : refusal 6 0 ≡ bytes_of "answer 6 at 0\n"
unfolding decimal_of
empty_table = refl

pub bad_mask : refusal 4 66 ≡ bytes_of "answer 4 at 66\n"
unfolding decimal_of
bad_mask = refl
