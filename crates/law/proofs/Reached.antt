-- What is kept along any deliveries: the line is safe, and of the log only the bytes of its entries change.
use Rattle.std.specs.Prelude.{Ok, Err}
use Prim.Native.Nat.{ℕ, ◌*◌, ◌≤◌}
use mathlib.Core.Bool.{true, false}
use mathlib.Core.List.{List, [], ◌∷◌}
use mathlib.Core.Logic.{⊎_elim}
use mathlib.Core.Path.{◌≡◌, refl, sym, ap, ◌∙◌, subst}
use native.Mathlib.Omega.{arith}
use lib.ListN.{get_or, length}
use Rattle.answers.specs.Answers.{is_done, number_of, Answer}
use Rattle.answers.specs.declared.Refusal.TheVariants.{NoChannel, ChannelEmpty, LogFull}
use Rattle.std.proofs.lemmas.Bool.{cases_Bool}
use Rattle.table.specs.declared.Table.{Table}
use Rattle.schedule.specs.declared.Delivery.{Delivery}
use Rattle.state.specs.declared.State.{State}
use Rattle.delivery.specs.Delivery.{Outcome, delivered}
use Rattle.fresh.specs.Fresh.{fresh}
use Rattle.kept.proofs.Ends.{refused_changes_nothing}
use Rattle.kept.proofs.Log.{log_behind}
use Rattle.line.specs.Answered.{Allowed, Each, answers}
use Rattle.line.specs.Runs.{line_begun, run}
use Rattle.link.proofs.Made.{done, full}
use Rattle.link.proofs.Deliveries.{Safe, Answered, no_channel, empty, made, answered, safe_after, safe_fresh}
use Rattle.link.proofs.Tables.{Lawful}

-- an answer with a number below 11
allowed_by : (a : Answer) → number_of a ≤ 10 → Allowed a
allowed_by a h = (
  λ e. (let n : number_of a ≡ 11 = ap number_of e in omega arith),
  λ e. (let n : number_of a ≡ 12 = ap number_of e in omega arith),
)

abbrev AllowedAt : Outcome → Type 0
AllowedAt o = Allowed o.answer

answer_allowed : (T : Table) (s : State) (log : List ℕ) (o : Outcome) → Answered T s log o → Allowed o.answer
answer_allowed T s log o (no_channel e) = subst AllowedAt (sym e) (allowed_by (Err NoChannel) (omega arith))
answer_allowed T s log o (empty e) = subst AllowedAt (sym e) (allowed_by (Err ChannelEmpty) (omega arith))
answer_allowed T s log o (made (done e i)) = subst Allowed (sym e) (allowed_by (Ok tt) (omega arith))
answer_allowed T s log o (made (full e)) = subst AllowedAt (sym e) (allowed_by (Err LogFull) (omega arith))

pub next_allowed : (T : Table) (q : Lawful T) (s : State) (log : List ℕ) → Safe T s log → (from to : ℕ)
    → Allowed (delivered T s log from to).answer
next_allowed T q s log f from to = answer_allowed T s log (delivered T s log from to) (answered T q s log f from to)

-- a state and a log that a line reaches which began with the log `before`
pub record Reached (T : Table) (before : List ℕ) (o : Outcome) : Type 0 where
  pub safe : Safe T o.state o.log
  pub long : length o.log ≡ length before
  pub behind : (i : ℕ) → o.state.logged * 2 ≤ i → get_or o.log i 0 ≡ get_or before i 0

module _ (T : Table) (q : Lawful T) (before : List ℕ) where
  pub fresh_reached : Reached T before (line_begun T before)
  unfolding fresh
  fresh_reached = rw q.sound (record { safe = safe_fresh T q before; long = refl; behind = λ i _. refl })

  one_more : (o : Outcome) → Reached T before o → (from to : ℕ) → Reached T before (delivered T o.state o.log from to)
  one_more o r from to = ⊎_elim
      (λ (d : is_done (delivered T o.state o.log from to).answer ≡ true).
      let b = log_behind T o.state o.log from to d in
      record {
        safe = safe_after T q o.state o.log r.safe from to;
        long = b.size ∙ r.long;
        behind = λ i h. b.after i (omega arith) ∙ r.behind i (omega (arith, b.grown));
      })
      (λ (d : is_done (delivered T o.state o.log from to).answer ≡ false).
      let e = refused_changes_nothing T o.state o.log from to d in
      record {
        safe = safe_after T q o.state o.log r.safe from to;
        long = ap length e.1 ∙ r.long;
        behind = λ i h. ap (λ (l : List ℕ). get_or l i 0) e.1
            ∙ r.behind i (subst (λ (s : State). s.logged * 2 ≤ i) e.0 h);
      })
      (cases_Bool (is_done (delivered T o.state o.log from to).answer))

  abbrev next : Outcome → Delivery → Outcome
  next o d = delivered T o.state o.log d.from d.to

  pub run_reached : (o : Outcome) → Reached T before o → (deliveries : List Delivery) → Reached T before (run T o deliveries)
  unfolding run
  run_reached o r [] = r
  run_reached o r (d ∷ deliveries) = run_reached (next o d) (one_more o r d.from d.to) deliveries

  pub run_allowed : (o : Outcome) → Reached T before o → (deliveries : List Delivery) → Each Allowed (answers T o deliveries)
  unfolding answers
  run_allowed o r [] = tt
  run_allowed o r (d ∷ deliveries) = (
    next_allowed T q o.state o.log r.safe d.from d.to,
    run_allowed (next o d) (one_more o r d.from d.to) deliveries,
  )
