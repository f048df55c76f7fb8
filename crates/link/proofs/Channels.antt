-- Pops and puts of a channel, as changes of its list.
use Prim.Native.Nat.{ℕ, ◌<◌, ◌≤◌, suc, zero}
use mathlib.Core.Bool.{cond, not}
use mathlib.Core.List.{[], ◌++◌, ◌∷◌}
use mathlib.Core.Path.{◌≡◌, ap, refl}
use native.Mathlib.Omega.{arith}
use lib.ListN.{length, take}
use lib.Seq.{take-nil}
use borrow.Author.Tests.{ne_eqb}
use Rattle.channels.specs.Channels.{ends_ready, is_ready, popped3, put1, put3}
use Rattle.channels.specs.declared.Channel1.{Channel1}
use Rattle.channels.specs.declared.Channel3.{Channel3}
use Rattle.channels.specs.declared.Message.{Message}
use Rattle.channels.specs.declared.Message.TheVariants.{Abort, Commit, Lock, Ready}
use Rattle.protocol.specs.Steps.{with_ready}
use Rattle.protocol.proofs.Cases.{clash}
use Rattle.line.specs.Contents.{messages1, messages3}

-- a channel is empty exactly when its count is 0
none_of1 : (n : ℕ) (a : Message) → take n (a ∷ []) ≡ [] → n ≡ 0
none_of1 zero a e = refl
none_of1 (suc n) a e = clash (cc)

pub empty_count1 : (c : Channel1) → messages1 c ≡ [] → c.count ≡ 0
empty_count1 c e = none_of1 c.count c.first e

pub empty_messages1 : (c : Channel1) → c.count ≡ 0 → messages1 c ≡ []
empty_messages1 c e = ap (λ (n : ℕ). take n (c.first ∷ [])) e

pub empty_messages3 : (c : Channel3) → c.count ≡ 0 → messages3 c ≡ []
empty_messages3 c e = ap (λ (n : ℕ). take n (c.first ∷ c.second ∷ c.third ∷ [])) e

-- the oldest message, and those behind it
some_of1 : (n : ℕ) (a : Message) → (n ≡ 0 → ⊥) → take n (a ∷ []) ≡ a ∷ []
some_of1 zero a h = absurd (h refl)
some_of1 (suc n) a h = ap (λ l. a ∷ l) (take-nil n)

pub pop_messages1 : (c : Channel1) → (c.count ≡ 0 → ⊥) → messages1 c ≡ c.first ∷ []
pop_messages1 c h = some_of1 c.count c.first h

some_of3 : (n : ℕ) (a b d : Message) → n ≤ 3 → (n ≡ 0 → ⊥)
    → messages3 (record { count = n; first = a; second = b; third = d })
    ≡ a ∷ messages3 (popped3 (record { count = n; first = a; second = b; third = d }))
some_of3 zero a b d l h = absurd (h refl)
some_of3 (suc zero) a b d l h = refl
some_of3 (suc (suc zero)) a b d l h = refl
some_of3 (suc (suc (suc zero))) a b d l h = refl
some_of3 (suc (suc (suc (suc n)))) a b d l h = absurd (omega arith)

pub pop_messages3 : (c : Channel3) → c.count ≤ 3 → (c.count ≡ 0 → ⊥)
    → messages3 c ≡ c.first ∷ messages3 (popped3 c)
pop_messages3 c l h = some_of3 c.count c.first c.second c.third l h

-- a message put last, where there is room
pub put_messages1 : (c : Channel1) (m : Message) → messages1 c ≡ [] → messages1 (put1 c m) ≡ messages1 c ++ m ∷ []
put_messages1 c m e = let z = empty_count1 c e in rw z

put_of3 : (n : ℕ) (a b d m : Message) → n < 3
    → messages3 (put3 (record { count = n; first = a; second = b; third = d }) m)
    ≡ take n (a ∷ b ∷ d ∷ []) ++ m ∷ []
put_of3 zero a b d m h = refl
put_of3 (suc zero) a b d m h = refl
put_of3 (suc (suc zero)) a b d m h = refl
put_of3 (suc (suc (suc n))) a b d m h = absurd (omega arith)

pub put_messages3 : (c : Channel3) (m : Message) → c.count < 3 → messages3 (put3 c m) ≡ messages3 c ++ m ∷ []
put_messages3 c m h = put_of3 c.count c.first c.second c.third m h

room_of3 : (n : ℕ) (a b d : Message) → length (take n (a ∷ b ∷ d ∷ [])) < 3 → n < 3
room_of3 zero a b d h = omega arith
room_of3 (suc zero) a b d h = omega arith
room_of3 (suc (suc zero)) a b d h = omega arith
room_of3 (suc (suc (suc n))) a b d h = absurd (omega arith)

pub room3 : (c : Channel3) → length (messages3 c) < 3 → c.count < 3
room3 c h = room_of3 c.count c.first c.second c.third h

-- "A READY isn't added when the newest message in that channel is a READY already"
ready_of3 : (n : ℕ) (a b d : Message)
    → with_ready (take n (a ∷ b ∷ d ∷ []))
    ≡ cond (not (ends_ready (record { count = n; first = a; second = b; third = d })))
    (take n (a ∷ b ∷ d ∷ []) ++ Ready ∷ []) (take n (a ∷ b ∷ d ∷ []))
ready_of3 zero a b d = refl
ready_of3 (suc zero) Ready b d = refl
ready_of3 (suc zero) (Lock r) b d = refl
ready_of3 (suc zero) (Commit g) b d = refl
ready_of3 (suc zero) (Abort g) b d = refl
ready_of3 (suc (suc zero)) a Ready d = refl
ready_of3 (suc (suc zero)) a (Lock r) d = refl
ready_of3 (suc (suc zero)) a (Commit g) d = refl
ready_of3 (suc (suc zero)) a (Abort g) d = refl
ready_of3 (suc (suc (suc n))) a b d =
    rw (
      take-nil n,
      ne_eqb (suc (suc (suc n))) 0 (λ e. absurd (omega arith)),
      ne_eqb (suc (suc (suc n))) 1 (λ e. absurd (omega arith)),
      ne_eqb (suc (suc (suc n))) 2 (λ e. absurd (omega arith)),
    ) (third d)
  where
    third : (d : Message)
        → with_ready (a ∷ b ∷ d ∷ []) ≡ cond (not (is_ready d)) (a ∷ b ∷ d ∷ Ready ∷ []) (a ∷ b ∷ d ∷ [])
    third Ready = refl
    third (Lock r) = refl
    third (Commit g) = refl
    third (Abort g) = refl

pub with_ready3 : (c : Channel3) → with_ready (messages3 c) ≡ cond (not (ends_ready c)) (messages3 c ++ Ready ∷ []) (messages3 c)
with_ready3 c = ready_of3 c.count c.first c.second c.third
