-- Work at a task so far, as a line of the protocol.
use Prim.Native.Nat.{ℕ, ◌≤◌}
use mathlib.Core.Bool.{Bool, true}
use mathlib.Core.List.{List}
use mathlib.Core.Path.{◌≡◌, ◌∙◌, ap, refl, subst, sym}
use lib.ListN.{length}
use Rattle.channels.specs.declared.Request.{Request}
use Rattle.state.specs.declared.Gate.{Gate}
use Rattle.state.specs.declared.Task.{Task}
use Rattle.tasks.specs.Tasks.{begun}
use Rattle.tasks.specs.declared.Work.{Work}
use Rattle.kept.proofs.Rules.{SizedTask}
use Rattle.protocol.specs.Lines.{Line}
use Rattle.protocol.specs.Plans.{changed}
use Rattle.link.proofs.Entries.{entries_with}
use Rattle.link.proofs.Frame.{changed_at}
use Rattle.link.proofs.Loops.{allowed, allowed_if}
use Rattle.link.proofs.View.{across_list, line_with, up_list, requests_of}

-- a task whose arrays have their lengths, and whose list is within its room
pub record Fit (p : Task) : Type 0 where
  pub sized : SizedTask p
  pub few : p.count ≤ 16

module _ (G : ℕ → Gate) (log : List Request) (b : ℕ) (S : ℕ → Task) where
  -- the line with task p at b, the others as S, and these entries before those of the log
  abbrev pub line_at : Task → ℕ → List Request → Line
  line_at p n E = line_with (changed S b p) G (entries_with n E log)

  -- the work w at b shows the protocol's line x
  pub record Shows (w : Work) (x : Line) : Type 0 where
    pub good : w.ok ≡ true
    pub fit : Fit w.task
    pub long : length w.entries ≡ 16
    pub is : line_at w.task w.fired w.entries ≡ x

  -- what holds of work that is allowed, and of its line, holds of all work that shows a line
  pub shows_all : (Q : Work → Line → Type 0)
      → ((p : Task) (n : ℕ) (E : List Request) → Fit p → length E ≡ 16 → Q (allowed p n E) (line_at p n E))
      → (w : Work) (x : Line) → Shows w x → Q w x
  shows_all Q f w x r =
      let ok : allowed w.task w.fired w.entries ≡ w =
      ap (λ (o : Bool). allowed_if o w.task w.fired w.entries) (sym r.good) in
      subst (λ (y : Line). Q w y) r.is
      (subst (λ (v : Work). Q v (line_at w.task w.fired w.entries)) ok (f w.task w.fired w.entries r.fit r.long))

  pub begun_shows : (p : Task) (x : Line) → Fit p → line_with (changed S b p) G log ≡ x → Shows (begun p) x
  begun_shows p x z e = record { good = refl; fit = z; long = refl; is = e }

  -- what the protocol reads of b's own task
  own : {B : Type 0} (f : Task → B) (F : Line → B) (w : Work) (x : Line)
      → F (line_at w.task w.fired w.entries) ≡ f (changed S b w.task b) → Shows w x → F x ≡ f w.task
  own f F w x e r = ap F (sym r.is) ∙ e ∙ ap f (changed_at S b w.task)

  pub own_state : (w : Work) (x : Line) → Shows w x → x.at b ≡ w.task.state
  own_state w x = own (λ p. p.state) (λ y. y.at b) w x refl

  pub own_mode : (w : Work) (x : Line) → Shows w x → x.mode b ≡ w.task.mode
  own_mode w x = own (λ p. p.mode) (λ y. y.mode b) w x refl

  pub own_waiting : (w : Work) (x : Line) → Shows w x → x.waiting b ≡ requests_of w.task
  own_waiting w x = own requests_of (λ y. y.waiting b) w x refl

  pub own_up : (w : Work) (x : Line) (g : ℕ) → Shows w x → x.up b g ≡ up_list w.task g
  own_up w x g = own (λ p. up_list p g) (λ y. y.up b g) w x refl

  pub own_across : (w : Work) (x : Line) (c : ℕ) → Shows w x → x.across b c ≡ across_list w.task c
  own_across w x c = own (λ p. across_list p c) (λ y. y.across b c) w x refl

  pub allowed_shows : (p : Task) (n : ℕ) (E : List Request) → Fit p → length E ≡ 16 → Shows (allowed p n E) (line_at p n E)
  allowed_shows p n E z l = record { good = refl; fit = z; long = l; is = refl }
