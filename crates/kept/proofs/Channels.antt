-- A channel with a message put last, or without its oldest, keeps the rules of its pair.
use Prim.Native.Nat.{ℕ, suc, zero, ◌≤◌}
use mathlib.Core.Bool.{Bool, true, false, ◌&&◌, true≢false}
use mathlib.Core.Path.{◌≡◌, refl, sym, subst}
use native.Mathlib.Omega.{arith}
use lib.Dec.{leb, leb-zero}
use borrow.Author.Tests.{leb-true, ne_eqb, lt-ltb}
use Rattle.std.proofs.lemmas.Bool.{and_from, and_parts}
use Rattle.channels.specs.Channels.{is_ready, empty1, empty3, popped3, put1, put3}
use Rattle.channels.specs.declared.Message.{Message}
use Rattle.channels.specs.declared.Channel1.{Channel1}
use Rattle.channels.specs.declared.Channel3.{Channel3}
use Rattle.sound_state.specs.SoundState.{up_fits, up_sound}
use Rattle.sound_state.specs.Parts.{one_sound, room}

abbrev channel3 : ℕ → Message → Message → Message → Channel3
channel3 n a b c = record { count = n; first = a; second = b; third = c }

put_at : (g n : ℕ) (a b c m : Message) → up_fits g m ≡ true
    → up_sound true g (channel3 n a b c) ≡ true → up_sound true g (put3 (channel3 n a b c) m) ≡ true
put_at g zero a b c m f h =
    and_from (up_fits g m) (is_ready b && is_ready c) f ((and_parts (is_ready a) (is_ready b && is_ready c) h).1)
put_at g (suc zero) a b c m f h =
    let k : (is_ready b && is_ready c) ≡ true = (and_parts (up_fits g a) (is_ready b && is_ready c) h).1 in
    and_from (up_fits g a) (up_fits g m && is_ready c) ((and_parts (up_fits g a) (is_ready b && is_ready c) h).0)
    (and_from (up_fits g m) (is_ready c) f ((and_parts (is_ready b) (is_ready c) k).1))
put_at g (suc (suc zero)) a b c m f h =
    let k : (up_fits g b && is_ready c) ≡ true = (and_parts (up_fits g a) (up_fits g b && is_ready c) h).1 in
    and_from (up_fits g a) (up_fits g b && up_fits g m) ((and_parts (up_fits g a) (up_fits g b && is_ready c) h).0)
    (and_from (up_fits g b) (up_fits g m) ((and_parts (up_fits g b) (is_ready c) k).0) f)
put_at g (suc (suc (suc n))) a b c m f h =
    let k : ℕ = suc (suc (suc n)) in
    rw (ne_eqb k 0 (λ e. omega arith), ne_eqb k 1 (λ e. omega arith), ne_eqb k 2 (λ e. omega arith)) h

-- without the first of three tests
later : (x y z : Bool) → (x && (y && z)) ≡ true → (y && (z && true)) ≡ true
later true true z h = and_from z true h refl
later true false z h = h
later false y z h = absurd (true≢false (sym h))

pop_at : (g n : ℕ) (a b c : Message) → up_sound true g (channel3 n a b c) ≡ true
    → up_sound true g (popped3 (channel3 n a b c)) ≡ true
pop_at g zero a b c h = later (is_ready a) (is_ready b) (is_ready c) h
pop_at g (suc zero) a b c h = later (up_fits g a) (is_ready b) (is_ready c) h
pop_at g (suc (suc zero)) a b c h = later (up_fits g a) (up_fits g b) (is_ready c) h
pop_at g (suc (suc (suc zero))) a b c h = later (up_fits g a) (up_fits g b) (up_fits g c) h
pop_at g (suc (suc (suc (suc n)))) a b c h =
    let k : suc (suc (suc (suc n))) ≤ 3 = leb-true (suc (suc (suc (suc n)))) 3 ((and_parts _ _ h).0) in absurd (omega arith)

-- a channel to gate g between parties that are present
module _ (present : Bool) (here : present ≡ true) (g : ℕ) (c : Channel3) (h : up_sound present g c ≡ true) where
  pub put_up : (m : Message) → up_fits g m ≡ true → up_sound present g (put3 c m) ≡ true
  put_up m f = subst (λ (x : Bool). up_sound x g (put3 c m) ≡ true) (sym here)
      (put_at g c.count c.first c.second c.third m f (subst (λ (x : Bool). up_sound x g c ≡ true) here h))

  pub pop_up : up_sound present g (popped3 c) ≡ true
  pop_up = subst (λ (x : Bool). up_sound x g (popped3 c) ≡ true) (sym here)
      (pop_at g c.count c.first c.second c.third (subst (λ (x : Bool). up_sound x g c ≡ true) here h))

-- a channel for one message, where fits says which messages its pair can send
module _ (fits : Message → Bool) where
  abbrev pub OneSound : Bool → Channel1 → Type 0
  OneSound present c = one_sound present (fits c.first) c ≡ true

  put_one_at : (n : ℕ) (a m : Message) → fits m ≡ true → OneSound true (record { count = n; first = a })
      → OneSound true (put1 (record { count = n; first = a }) m)
  put_one_at zero a m f h = f
  put_one_at (suc n) a m f h = rw (ne_eqb (suc n) 0 (λ e. omega arith)) h

  module _ (present : Bool) (c : Channel1) (h : OneSound present c) where
    pub put_one : present ≡ true → (m : Message) → fits m ≡ true → OneSound present (put1 c m)
    put_one here m f = subst (λ (x : Bool). OneSound x (put1 c m)) (sym here)
        (put_one_at c.count c.first m f (subst (λ (x : Bool). OneSound x c) here h))

    -- its message, where it has one, is such a message
    pub one_fits : (c.count ≡ 0 → ⊥) → fits c.first ≡ true
    one_fits n =
        rw (lt-ltb 0 c.count (omega arith)) at ((and_parts (leb c.count (room present 1)) _ h).1)

pub empty_one : (present fits : Bool) → one_sound present fits empty1 ≡ true
empty_one present fits = rw (leb-zero (room present 1))

pub empty_up : (present : Bool) (g : ℕ) → up_sound present g empty3 ≡ true
empty_up present g = rw (leb-zero (room present 3))
