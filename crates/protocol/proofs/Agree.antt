-- Two lines that agree everywhere are one: so the invariant goes from the rules over to a desk's own state.
use Prim.Native.Nat.{ℕ}
use mathlib.Core.Path.{◌≡◌, fun_ext}
use Rattle.protocol.specs.Lines.{Line}

pub record Agree (a b : Line) : Type 0 where
  pub at : (t : ℕ) → a.at t ≡ b.at t
  pub mode : (t : ℕ) → a.mode t ≡ b.mode t
  pub waiting : (t : ℕ) → a.waiting t ≡ b.waiting t
  pub offers : (g t : ℕ) → a.offers g t ≡ b.offers g t
  pub deal : (g : ℕ) → a.deal g ≡ b.deal g
  pub up : (t g : ℕ) → a.up t g ≡ b.up t g
  pub down : (g t : ℕ) → a.down g t ≡ b.down g t
  pub across : (x y : ℕ) → a.across x y ≡ b.across x y
  pub log : a.log ≡ b.log

pub agree_path : {a b : Line} → Agree a b → a ≡ b
agree_path w i = record {
  at = fun_ext w.at i;
  mode = fun_ext w.mode i;
  waiting = fun_ext w.waiting i;
  offers = fun_ext (λ g. fun_ext (w.offers g)) i;
  deal = fun_ext w.deal i;
  up = fun_ext (λ t. fun_ext (w.up t)) i;
  down = fun_ext (λ g. fun_ext (w.down g)) i;
  across = fun_ext (λ x. fun_ext (w.across x)) i;
  log = w.log i;
}
