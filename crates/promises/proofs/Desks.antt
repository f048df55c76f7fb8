-- None of the wrong desks that the paper names keeps the promise of a delivery, and every desk that keeps it keeps the law of
-- the line.
use Rattle.std.specs.Prelude.{Ok}
use Prim.Native.Nat.{ℕ}
use mathlib.Core.Bool.{true≢false}
use mathlib.Core.List.{List, [], ◌∷◌}
use mathlib.Core.Path.{◌≡◌, refl, sym, ap, subst, ◌∙◌}
use native.Mathlib.Omega.{arith}
use lib.ListN.{get_or}
use Rattle.answers.specs.Answers.{is_done}
use Rattle.table.specs.declared.Table.{Table}
use Rattle.reader.specs.Reader.{read_of}
use Rattle.schedule.specs.declared.Delivery.{Delivery}
use Rattle.state.specs.States.{task_of, gate_of, down_of}
use Rattle.state.specs.declared.State.{State}
use Rattle.delivery.specs.Delivery.{Outcome, given_back, with_log, delivered}
use Rattle.delivery.specs.declared.Delivered.{Delivered}
use Rattle.line.specs.Law.{Law}
use Rattle.line.specs.Runs.{line_begun, run}
use Rattle.cases.specs.TableE.{pair}
use Rattle.law.proofs.Law.{law}
use Rattle.promises.specs.Desks.{Desk, Keeps, gone_on, line_by, RefusesAll, AnswersAlike, NeverMoves, PopsTheRest, WritesNothing}
use Rattle.promises.proofs.Worked.{table_of_e, before, after, second, worked}

-- the promise can be kept
pub kept : Keeps delivered
kept T s log from to = record { state = refl; bytes = refl }

module _ (desk : Desk) (keeps : Keeps desk) where
  -- and by one desk alone
  pub same : (T : Table) (s : State) (log : List ℕ) (from to : ℕ) → desk T s log from to ≡ delivered T s log from to
  same T s log from to =
      ap (λ (d : Delivered). with_log (desk T s log from to).log d) (keeps T s log from to).state
      ∙ ap (λ (l : List ℕ). with_log l (given_back (delivered T s log from to))) (keeps T s log from to).bytes

  -- what the desk makes of the next delivery of the worked run
  abbrev made : (n from to : ℕ) → Outcome
  made n from to = desk table_of_e (after n).state (after n).log from to

  same_made : (n from to : ℕ) → delivered table_of_e (after n).state (after n).log from to ≡ made n from to
  same_made n from to = sym (same table_of_e (after n).state (after n).log from to)

  pub some_done : RefusesAll desk → ⊥
  some_done all =
      true≢false (sym worked.first_done ∙ ap (λ (o : Outcome). is_done o.answer) (same_made 0 0 16)
      ∙ all table_of_e (after 0).state (after 0).log 0 16)

  pub answers_differ : AnswersAlike desk → ⊥
  answers_differ (a, alike) =
      let one : (made 0 0 16).answer ≡ a = alike table_of_e (after 0).state (after 0).log 0 16 in
      let other : (made 0 16 17).answer ≡ a = alike table_of_e (after 0).state (after 0).log 16 17 in
      true≢false (sym worked.first_done ∙ ap (λ (o : Outcome). is_done o.answer) (same_made 0 0 16)
      ∙ ap is_done (one ∙ sym other)
      ∙ ap (λ (o : Outcome). is_done o.answer) (sym (same_made 0 16 17)) ∙ worked.other_refused)

  pub some_moves : NeverMoves desk → ⊥
  some_moves never =
      let moved : (task_of (made 8 2 1).state 1).state ≡ 1 =
      ap (λ (o : Outcome). (task_of o.state 1).state) (sym (same_made 8 2 1)) ∙ worked.ninth_moves in
      let stood : (task_of (made 8 2 1).state 1).state ≡ 0 =
      never table_of_e (after 8).state (after 8).log 2 1 1 ∙ worked.ninth_before in
      omega (arith, moved, stood)

  pub more_than_popped : PopsTheRest desk → ⊥
  more_than_popped pops =
      let sent : (down_of (gate_of (made 1 1 16).state 0) 0).count ≡ 1 =
      ap (λ (o : Outcome). (down_of (gate_of o.state 0) 0).count) (sym (same_made 1 1 16)) ∙ worked.second_sends in
      let none : (down_of (gate_of (made 1 1 16).state 0) 0).count ≡ 0 =
      ap (λ (s : State). (down_of (gate_of s 0) 0).count)
      (pops table_of_e before (pair 0 16) (pair 1 16) second worked.second_way) ∙ worked.second_popped in
      omega (arith, sent, none)

  pub some_written : WritesNothing desk → ⊥
  some_written nothing =
      let written : get_or (made 7 1 2).log 0 0 ≡ 1 =
      ap (λ (o : Outcome). get_or o.log 0 0) (sym (same_made 7 1 2)) ∙ worked.eighth_writes in
      let left : get_or (made 7 1 2).log 0 0 ≡ 9 =
      ap (λ (l : List ℕ). get_or l 0 0) (nothing table_of_e (after 7).state (after 7).log 1 2) ∙ worked.eighth_before in
      omega (arith, written, left)

  same_line : (T : Table) (o : Outcome) (deliveries : List Delivery) → gone_on desk T o deliveries ≡ run T o deliveries
  unfolding gone_on run
  same_line T o [] = refl
  same_line T o (d ∷ deliveries) =
      ap (λ (x : Outcome). gone_on desk T x deliveries) (same T o.state o.log d.from d.to)
      ∙ same_line T (delivered T o.state o.log d.from d.to) deliveries

  -- so the count of its log is backed by entries, which are a legal run
  pub law_kept : (file log : List ℕ) → (read_of file).answer ≡ Ok tt → (deliveries : List Delivery)
      → Law (read_of file).table log (line_by desk (read_of file).table log deliveries).state
      (line_by desk (read_of file).table log deliveries).log
  law_kept file log accepted deliveries =
      subst (λ (o : Outcome). Law (read_of file).table log o.state o.log)
      (sym (same_line (read_of file).table (line_begun (read_of file).table log) deliveries))
      (law file log accepted deliveries)
