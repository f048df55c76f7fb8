-- The log of a safe line is a legal run of the simple machine.
use Prim.Native.Nat.{ℕ, suc, zero, ◌+◌, ◌*◌}
use mathlib.Core.Bool.{true}
use mathlib.Core.List.{List, [], ◌∷◌, ◌++◌}
use mathlib.Core.Path.{◌≡◌, refl, ap, ◌∙◌}
use lib.ListN.{get_or}
use Rattle.channels.specs.declared.Request.{Request}
use Rattle.table.specs.declared.Table.{Table}
use Rattle.machine.specs.Machine as machine
use Rattle.machine.specs.Machine.{Entry, starts, enabled, legal, replay}
use Rattle.machine.proofs.Runs.{enabled_of, replay_more, legal_more}
use Rattle.protocol.specs.Runs.{Legal, start, fired}
use Rattle.line.specs.Contents.{entries_of}
use Rattle.link.proofs.View.{newest_first}
use Rattle.link.proofs.Tables.{plan_of, Lawful}

-- entries newest first, put in the order of the log
abbrev oldest_first : List Request → List Entry
oldest_first [] = []
oldest_first (r ∷ l) = oldest_first l ++ record { gate = r.gate.0; vector = r.vector } ∷ []

same_entries : (n : ℕ) (log : List ℕ) → entries_of n log ≡ oldest_first (newest_first n log)
unfolding entries_of
same_entries zero log = refl
same_entries (suc n) log =
    ap (λ (l : List Entry). l ++ record { gate = get_or log (n * 2) 0; vector = get_or log (n * 2 + 1) 0 } ∷ []) (same_entries n log)

-- what the simple machine makes of these entries: a legal run to the states `at`
pub record LegalTo (T : Table) (entries : List Entry) (at : ℕ → ℕ) : Type 0 where
  pub legal_is : legal T (starts T) entries ≡ true
  pub replay_is : replay T (starts T) entries ≡ at

module _ (T : Table) (q : Lawful T) where
  machine_run : (l : List Request) (at : ℕ → ℕ) → Legal (plan_of T) l at → LegalTo T (oldest_first l) at
  unfolding legal replay
  machine_run [] at start = record { legal_is = refl; replay_is = refl }
  machine_run (r ∷ l) at (fired {at = before} g v b p m ready) =
      let k = machine_run l before p in
      let e : Entry = record { gate = g; vector = v } in
      let can : enabled T (replay T (starts T) (oldest_first l)) g v ≡ true =
      ap (λ (x : ℕ → ℕ). enabled T x g v) k.replay_is ∙ enabled_of T before g v (q.present g v b m).vector ready in
      record {
        legal_is = legal_more T (starts T) (oldest_first l) e k.legal_is can;
        replay_is = replay_more T (starts T) (oldest_first l) e ∙ ap (λ (x : ℕ → ℕ). machine.fired T x g v) k.replay_is;
      }

  pub log_legal : (n : ℕ) (log : List ℕ) (at : ℕ → ℕ) → Legal (plan_of T) (newest_first n log) at → LegalTo T (entries_of n log) at
  log_legal n log at p =
      let k = machine_run (newest_first n log) at p in
      record {
        legal_is = ap (legal T (starts T)) (same_entries n log) ∙ k.legal_is;
        replay_is = ap (replay T (starts T)) (same_entries n log) ∙ k.replay_is;
      }
