-- What program desk prints is at most 200 bytes long, and 20 more for each byte of the log; and it is never empty.
use Rattle.std.specs.Prelude.{Ok, Err}
use Prim.Native.Nat.{ℕ, ◌+◌, ◌*◌, ◌/◌, ◌^◌, ◌<◌, ◌≤◌}
use mathlib.Core.Bool.{Bool, true, false, cond}
use mathlib.Core.List.{List, ◌++◌}
use mathlib.Core.Logic.{⊎_elim}
use mathlib.Core.Path.{◌≡◌, refl}
use native.Mathlib.Omega.{arith}
use lib.ListN.{get_or, length, drop}
use lib.Pow.{pow_mono}
use borrow.Author.Tests.{eqb-true, lt-ltb, ltb-true}
use Rattle.answers.specs.Answers.{number_of, is_done, Answer}
use Rattle.answers.specs.declared.Refusal.TheVariants.{CutOff, Kind, BodyLength, FieldRange, Order, Missing, TooMany, NoChannel, ChannelEmpty, LogFull, Unsound, Excluded}
use Rattle.laws.proofs.Tests.{le_or_lt}
use Rattle.sets.proofs.Members.{below_power}
use Rattle.table.specs.Tables.{mask_of}
use Rattle.table.specs.declared.Table.{Table}
use Rattle.soundness.specs.Sound.{sound_table}
use Rattle.soundness.proofs.Rules.{Rules, sound_rules}
use Rattle.reader.specs.Reader.{read_of}
use Rattle.reader.specs.declared.Loaded.{Loaded}
use Rattle.accepted.proofs.Accepted.{accepted_sound, accepted_sized}
use Rattle.schedule.specs.Schedules.{schedule_of}
use Rattle.schedule.specs.declared.Schedule.{Schedule}
use Rattle.quiet.specs.Quiet.{quiet}
use Rattle.state.specs.States.{task_of}
use Rattle.state.specs.declared.State.{State}
use Rattle.kept.proofs.States.{state_rules, sound_says}
use Rattle.run.specs.Run.{Course}
use Rattle.text.specs.Text.{typed}
use Rattle.text.proofs.Typing.{typed_whole}
use Rattle.report.specs.Report.{report}
use Rattle.report.proofs.Room.{Ranges, refusal_short, report_short}
use Rattle.printed.specs.Printed.{Page, refused, of_course, of_schedule, printed}
use Rattle.room.specs.Rooms.{room_for}
use Rattle.room.proofs.Courses.{Good, course_good}

number_small : (a : Answer) → number_of a < 256
number_small (Ok tt) = omega arith
number_small (Err CutOff) = omega arith
number_small (Err Kind) = omega arith
number_small (Err BodyLength) = omega arith
number_small (Err FieldRange) = omega arith
number_small (Err Order) = omega arith
number_small (Err Missing) = omega arith
number_small (Err TooMany) = omega arith
number_small (Err NoChannel) = omega arith
number_small (Err ChannelEmpty) = omega arith
number_small (Err LogFull) = omega arith
number_small (Err Unsound) = omega arith
number_small (Err Excluded) = omega arith

-- the masks of a sound table, and the states of its tasks
mask_small : (T : Table) → Rules T → (g v : ℕ) → g < 16 → mask_of T.masks g v < 65536
mask_small T R g v l = ⊎_elim
    (λ (h : get_or T.vectors g 0 ≤ v). omega (arith, R.no_mask g v l h))
    (λ (h : v < get_or T.vectors g 0).
    let e = eqb-true (mask_of T.masks g v / 2 ^ T.tasks) 0 (R.members g v l h) in
    let m : 2 ^ T.tasks ≤ 2 ^ 16 = pow_mono R.tasks in
    omega (arith, below_power T.tasks (mask_of T.masks g v) e))
    (le_or_lt (get_or T.vectors g 0) v)

-- a page has room, and something stands on it
record Fits (log : List ℕ) (p : Page) : Type 0 where
  short : length p.text ≤ room_for (length log)
  some : 0 < length p.text

either : (log : List ℕ) (b : Bool) (p q : Page) → (b ≡ true → Fits log p) → Fits log q → Fits log (cond b p q)
either log true p q x y = x refl
either log false p q x y = y

refused_fits : (log : List ℕ) (a : Answer) (place : ℕ) → Fits log (refused (number_of a) place log)
refused_fits log a place = record {
  short = omega (arith, refusal_short (number_of a) place (number_small a));
  some = omega arith;
}

-- a report begins with a word
report_some : (masks : List ℕ) (tasks number made : ℕ) (quiet : Bool) (s : State) (log : List ℕ)
    → 0 < length (report masks tasks number made quiet s log)
unfolding report
report_some masks tasks number made quiet s log = omega arith

module _ (T : Table) (h : sound_table T ≡ true) (room : length T.vectors ≡ 16) (log : List ℕ) where
  abbrev R : Rules T
  R = sound_rules T h

  ranges : (c : Course) → Good T log c → Ranges T.masks T.tasks (number_of c.answer) c.state c.log
  ranges c g = record {
    answer = number_small c.answer;
    gate = λ i l. omega (arith, (g.in_range i l).gate);
    vector = λ i l. omega (arith, (g.in_range i l).vector);
    mask = λ i l. mask_small T R (get_or c.log (i * 2) 0) (get_or c.log (i * 2 + 1) 0) (g.in_range i l).gate;
    state = λ t l.
        let t16 : t < 16 = omega (arith, R.tasks) in
        let k = (state_rules T c.state g.is_sized (sound_says T c.state c.log g.is_sound).state).task t t16 in
        let below : (task_of c.state t).state < get_or T.states t 0 =
        ltb-true (task_of c.state t).state (get_or T.states t 0) (rw (lt-ltb t T.tasks l) at k.kept.state) in
        omega (arith, R.states t t16);
    sixteen = R.tasks;
  }

  course_fits : (c : Course) → Good T log c → Fits log (of_course T c)
  course_fits c g = record {
    short = omega (
      arith,
      report_short T.masks T.tasks (number_of c.answer) c.made (quiet c.state) c.state c.log (ranges c g),
      (sound_says T c.state c.log g.is_sound).logged,
      g.is_long,
    );
    some = report_some T.masks T.tasks (number_of c.answer) c.made (quiet c.state) c.state c.log;
  }

  schedule_fits : (file : List ℕ) (listed : Schedule) → Fits log (of_schedule T file log listed)
  schedule_fits file listed = either log (is_done listed.answer) _ _
      (λ _. course_fits _ (course_good T log room h file listed.count))
      (refused_fits log listed.answer listed.place)

module _ (table schedule log : List ℕ) where
  page_fits : Fits log (printed table schedule log)
  unfolding printed
  page_fits =
      let loaded : Loaded = read_of table in
      either log (is_done loaded.answer) _ _
      (λ d. schedule_fits loaded.table (accepted_sound table d) (accepted_sized table d).vectors log schedule (schedule_of schedule))
      (refused_fits log loaded.answer loaded.place)

  pub text_short : length (printed table schedule log).text ≤ room_for (length log)
  text_short = page_fits.short

  pub text_some : 0 < length (printed table schedule log).text
  text_some = page_fits.some

  -- so a buffer of that room holds the whole text, and nothing behind it changes
  pub text_whole : (buffer : List ℕ) → room_for (length log) ≤ length buffer
      → typed (printed table schedule log).text (record { bytes = buffer; at = 0 })
      ≡ record {
        bytes = (printed table schedule log).text ++ drop (length (printed table schedule log).text) buffer;
        at = length (printed table schedule log).text;
      }
  text_whole buffer h = typed_whole _ buffer (omega (arith, text_short))
