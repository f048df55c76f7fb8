-- The law of the line: the third demand, for every accepted table, every log and all deliveries.
use Rattle.std.specs.Prelude.{Some, Ok}
use Prim.Native.Nat.{ℕ}
use mathlib.Core.List.{List}
use mathlib.Core.Path.{◌≡◌, sym, ap, ◌∙◌}
use Rattle.answers.specs.Answers.{is_done}
use Rattle.table.specs.declared.Table.{Table}
use Rattle.reader.specs.Reader.{read_of}
use Rattle.accepted.proofs.Accepted.{accepted_sound, accepted_sized}
use Rattle.schedule.specs.declared.Delivery.{Delivery}
use Rattle.delivery.specs.Delivery.{Outcome}
use Rattle.protocol.proofs.Counted.{one_under_way}
use Rattle.line.specs.Law.{Law}
use Rattle.line.specs.Answered.{Allowed, Each, answers}
use Rattle.line.specs.Runs.{line_begun, run_from}
use Rattle.link.proofs.View.{line_of}
use Rattle.link.proofs.Tables.{plan_of, Lawful, lawful}
use Rattle.link.proofs.Deliveries.{safe_rules, safe_fits}
use Rattle.law.proofs.Legal.{log_legal}
use Rattle.law.proofs.Live.{live_here}
use Rattle.law.proofs.Reached.{Reached, next_allowed, fresh_reached, run_reached, run_allowed}
use Rattle.law.proofs.Replayed.{exact_state, behind_state, one_commit_lem}
use Rattle.law.proofs.Still.{all_free, none_waits_lem, none_ready_lem}

law_of : (T : Table) → Lawful T → (before : List ℕ) (o : Outcome) → Reached T before o → Law T before o.state o.log
law_of T q before o r =
    let s = o.state in
    let log = o.log in
    let f = r.safe in
    let i = f.inv in
    let R = safe_rules T s log f in
    let l = log_legal T q s.logged log i.ghost.replayed i.meaning.legal in
    record {
      is_legal = l.legal_is;
      backed = safe_fits T s log f;
      long = r.long;
      behind = r.behind;
      allowed = next_allowed T q s log f;
      none_held = λ h. all_free T q s R log h i;
      none_waits = λ h. none_waits_lem T q s R log h i;
      none_ready = λ h. none_ready_lem T q s R log h i;
      exact = λ t n. ap (λ (at : ℕ → ℕ). at t) l.replay_is ∙ exact_state T q s log R i t n;
      one_behind = λ t a g c. behind_state T q s log R i t a g c ∙ ap (λ (at : ℕ → ℕ). Some (at t)) (sym l.replay_is);
      one_commit = λ t a b g h. one_commit_lem T q s log R i t a b g h;
      one_token = one_under_way (plan_of T) q.right 16 16 q.rules.tasks q.rules.gates (line_of s log) i;
      live = live_here T q s log f;
    }

module _ (file log : List ℕ) (accepted : (read_of file).answer ≡ Ok tt) (deliveries : List Delivery) where
  abbrev table : Table
  table = (read_of file).table

  table_lawful : Lawful table
  table_lawful = lawful table (accepted_sound file (ap is_done accepted)) (accepted_sized file (ap is_done accepted))

  -- every state that a line reaches keeps the law
  pub law : Law table log (run_from table log deliveries).state (run_from table log deliveries).log
  law = law_of table table_lawful log (run_from table log deliveries)
      (run_reached table table_lawful log (line_begun table log) (fresh_reached table table_lawful log) deliveries)

  -- and no delivery on the way answers 11 or 12
  pub all_allowed : Each Allowed (answers table (line_begun table log) deliveries)
  all_allowed = run_allowed table table_lawful log (line_begun table log) (fresh_reached table table_lawful log) deliveries
