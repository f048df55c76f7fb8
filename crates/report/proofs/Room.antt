-- How long what is printed can be: a report at most 200 bytes, and 40 more for each log entry; a refusal at most 40.
use Prim.Native.Nat.{ℕ, ◌+◌, ◌*◌, ◌<◌, ◌≤◌}
use mathlib.Core.Bool.{Bool, true, false}
use mathlib.Core.List.{List, ◌++◌}
use native.Mathlib.Omega.{arith}
use lib.ListN.{length, get_or, length-append}
use Rattle.state.specs.States.{task_of}
use Rattle.state.specs.declared.State.{State}
use Rattle.table.specs.Tables.{mask_of}
use Rattle.text.specs.Text.{decimal}
use Rattle.text.proofs.Decimal.{decimal_short, decimal_most}
use Rattle.text.proofs.Joined.{joined_short}
use Rattle.report.specs.Report.{refusal, quiet_word, summary, entry_line, entry_lines, state_of, states_line, report}

-- numbers of 8 and 16 bits have at most 3 and 5 digits
byte_short : (n : ℕ) → n < 256 → length (decimal n) ≤ 3
byte_short n h = decimal_short 3 n (omega arith) (omega arith)

half_short : (n : ℕ) → n < 65536 → length (decimal n) ≤ 5
half_short n h = decimal_short 5 n (omega arith) (omega arith)

quiet_short : (quiet : Bool) → length (quiet_word quiet) ≤ 11
quiet_short true = omega arith
quiet_short false = omega arith

pub refusal_short : (number place : ℕ) → number < 256 → length (refusal number place) ≤ 40
refusal_short number place h = simp length-append (omega (arith, byte_short number h, decimal_most place))

-- what is asked of the numbers that are printed
pub record Ranges (masks : List ℕ) (tasks number : ℕ) (s : State) (log : List ℕ) : Type 0 where
  pub answer : number < 256
  pub gate : (i : ℕ) → i < s.logged → get_or log (i * 2) 0 < 256
  pub vector : (i : ℕ) → i < s.logged → get_or log (i * 2 + 1) 0 < 256
  pub mask : (i : ℕ) → i < s.logged → mask_of masks (get_or log (i * 2) 0) (get_or log (i * 2 + 1) 0) < 65536
  pub state : (t : ℕ) → t < tasks → (task_of s t).state < 256
  pub sixteen : tasks ≤ 16

module _ (masks : List ℕ) (tasks number made : ℕ) (quiet : Bool) (s : State) (log : List ℕ)
    (r : Ranges masks tasks number s log) where
  summary_short : length (summary number made s.logged quiet) ≤ 77
  summary_short =
      simp length-append
      (omega (arith, byte_short number r.answer, decimal_most made, decimal_most s.logged, quiet_short quiet))

  entry_short : (i : ℕ) → i < s.logged → length (entry_line masks log i) ≤ 37
  entry_short i h =
      let g = get_or log (i * 2) 0 in
      let v = get_or log (i * 2 + 1) 0 in
      simp length-append
      (omega (
        arith,
        byte_short g (r.gate i h),
        byte_short v (r.vector i h),
        half_short (mask_of masks g v) (r.mask i h),
      ))

  states_short : length (states_line s tasks) ≤ 70
  states_short =
      let e : (t : ℕ) → t < tasks → length (state_of s t) ≤ 4 =
      λ (t : ℕ) (h : t < tasks). omega (arith, byte_short (task_of s t).state (r.state t h)) in
      simp length-append (omega (arith, joined_short (state_of s) 4 tasks e, r.sixteen))

  pub report_short : length (report masks tasks number made quiet s log) ≤ 200 + 40 * s.logged
  unfolding report
  report_short =
      let e = summary number made s.logged quiet in
      let f = entry_lines masks log s.logged in
      let g = states_line s tasks in
      omega (
        arith,
        length-append e (f ++ g),
        length-append f g,
        summary_short,
        joined_short (entry_line masks log) 37 s.logged entry_short,
        states_short,
      )
