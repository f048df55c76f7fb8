-- One party, or one channel, changed: what that is as a function of numbers, and what else stays.
use Prim.Native.Nat.{ℕ, ◌<◌}
use mathlib.Core.List.{List}
use mathlib.Core.Path.{◌≡◌, ap, fun_ext}
use lib.ListN.{get_or, length, set}
use lib.Seq.{get_or-set_other, get_or-set_same}
use Rattle.state.specs.States.{gate_of, no_gate, no_task, task_of, with_gate, with_task}
use Rattle.state.specs.declared.Gate.{Gate}
use Rattle.state.specs.declared.State.{State}
use Rattle.state.specs.declared.Task.{Task}
use Rattle.protocol.specs.Plans.{changed, changed_from, changed_to}
use Rattle.protocol.proofs.Cases.{and_no, and_yes, diff, eq_case, eqb_same, same}

-- an array written at i, seen through f
pub set_row : {A B : Type 0} (f : A → B) (l : List A) (i : ℕ) (a d : A) → i < length l
    → (y : ℕ) → f (get_or (set l i a) y d) ≡ changed (λ y. f (get_or l y d)) i (f a) y
set_row f l i a d h y = elim (eq_case y i) [
  | same p e ↦ rw (e, p) (ap f (get_or-set_same l i a d h))
  | diff p e ↦ rw e (ap f (get_or-set_other l i y a d p))
]

pub set_changed : {A : Type 0} (l : List A) (i : ℕ) (a d : A) → i < length l
    → (y : ℕ) → get_or (set l i a) y d ≡ changed (λ y. get_or l y d) i a y
set_changed l i a d = set_row (λ x. x) l i a d

pub task_changed : (s : State) (t : ℕ) (p : Task) → t < length s.tasks → task_of (with_task s t p) ≡ changed (task_of s) t p
task_changed s t p h = fun_ext (set_changed s.tasks t p no_task h)

pub gate_changed : (s : State) (g : ℕ) (k : Gate) → g < length s.gates → gate_of (with_gate s g k) ≡ changed (gate_of s) g k
gate_changed s g k h = fun_ext (set_changed s.gates g k no_gate h)

-- a function changed at one place: there, back again, twice
pub changed_at : {A : Type 0} (S : ℕ → A) (t : ℕ) (a : A) → changed S t a t ≡ a
changed_at S t a = rw eqb_same

pub changed_back : {A : Type 0} (S : ℕ → A) (t : ℕ) → changed S t (S t) ≡ S
changed_back S t = fun_ext (λ x. elim (eq_case x t) [ same p e ↦ rw (e, p) | diff p e ↦ rw e ])

pub changed_twice : {A : Type 0} (S : ℕ → A) (t : ℕ) (p q : A) → changed (changed S t p) t q ≡ changed S t q
changed_twice S t p q = fun_ext (λ x. elim (eq_case x t) [ same r e ↦ rw e | diff r e ↦ rw e ])

-- a part f of the party at t: the same as before, or b
pub part_changed : {A B : Type 0} (f : A → B) (S : ℕ → A) (t : ℕ) (p : A) (b : B) → f p ≡ b
    → (x : ℕ) → f (changed S t p x) ≡ changed (λ y. f (S y)) t b x
part_changed f S t p b h x = elim (eq_case x t) [ same q e ↦ rw e h | diff q e ↦ rw e ]

pub part_kept : {A B : Type 0} (f : A → B) (S : ℕ → A) (t : ℕ) (p : A) → f p ≡ f (S t)
    → (x : ℕ) → f (changed S t p x) ≡ f (S x)
part_kept f S t p h x = elim (eq_case x t) [ same q e ↦ rw (e, q) h | diff q e ↦ rw e ]

-- the party at t exchanged, p for q: a part that is the same, a part that is b now, a row with b at one place
pub swap_kept : {A B : Type 0} (f : A → B) (S : ℕ → A) (t : ℕ) (p q : A) → f q ≡ f p
    → (x : ℕ) → f (changed S t q x) ≡ f (changed S t p x)
swap_kept f S t p q h x = elim (eq_case x t) [ same r e ↦ rw e h | diff r e ↦ rw e ]

pub swap_part : {A B : Type 0} (f : A → B) (S : ℕ → A) (t : ℕ) (p q : A) (b : B) → f q ≡ b
    → (x : ℕ) → f (changed S t q x) ≡ changed (λ y. f (changed S t p y)) t b x
swap_part f S t p q b h x = elim (eq_case x t) [ same r e ↦ rw e h | diff r e ↦ rw e ]

pub swap_row : {A B : Type 0} (f : A → ℕ → B) (S : ℕ → A) (t g : ℕ) (p q : A) (b : B)
    → ((y : ℕ) → f q y ≡ changed (f p) g b y)
    → (x y : ℕ) → f (changed S t q x) y ≡ changed_to (λ x y. f (changed S t p x) y) t g b x y
swap_row f S t g p q b h x y = elim (eq_case x t) [
  | diff r e ↦ rw (e, and_no)
  | same r e ↦ rw (e, and_yes) (h y)
]

-- a row of parts of the party at t: the same as before, or with b at one place
pub row_kept : {A B : Type 0} (f : A → ℕ → B) (S : ℕ → A) (t : ℕ) (p : A) → ((y : ℕ) → f p y ≡ f (S t) y)
    → (x y : ℕ) → f (changed S t p x) y ≡ f (S x) y
row_kept f S t p h x y = elim (eq_case x t) [ same q e ↦ rw (e, q) (h y) | diff q e ↦ rw e ]

pub row_changed_to : {A B : Type 0} (f : A → ℕ → B) (S : ℕ → A) (t g : ℕ) (p : A) (b : B)
    → ((y : ℕ) → f p y ≡ changed (f (S t)) g b y)
    → (x y : ℕ) → f (changed S t p x) y ≡ changed_to (λ x y. f (S x) y) t g b x y
row_changed_to f S t g p b h x y = elim (eq_case x t) [
  | diff q e ↦ rw (e, and_no)
  | same q e ↦ rw (e, and_yes, q) (h y)
]

pub row_changed_from : {A B : Type 0} (f : A → ℕ → B) (S : ℕ → A) (t g : ℕ) (p : A) (b : B)
    → ((y : ℕ) → f p y ≡ changed (f (S t)) g b y)
    → (x y : ℕ) → f (changed S t p x) y ≡ changed_from (λ x y. f (S x) y) t g b x y
row_changed_from f S t g p b h x y = elim (eq_case x t) [ diff q e ↦ rw e | same q e ↦ rw (e, q) (h y) ]
