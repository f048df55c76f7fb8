-- Laws of `list_handled` for a loop: one request more, a task that is Held, none left.
use Prim.Native.Nat.{ℕ, suc, zero, ◌+◌, ◌-◌, ◌<◌}
use mathlib.Core.Bool.{true, false}
use mathlib.Core.List.{List}
use mathlib.Core.Path.{◌≡◌, refl}
use native.Mathlib.Omega.{arith}
use lib.ListN.{get_or}
use Rattle.channels.specs.Channels.{no_request}
use Rattle.state.specs.States.{without_front}
use Rattle.tasks.specs.Tasks.{with, is_free, handled, list_handled}
use Rattle.tasks.specs.declared.Work.{Work}

module _ (moves : List ℕ) (gates b : ℕ) (masks : List ℕ) where
  pub list_more : (n i : ℕ) (w : Work) → i < n → is_free w.task.mode ≡ true
      → list_handled moves gates b masks (n - i) w
      ≡ list_handled moves gates b masks (n - (i + 1)) (handled moves gates b masks (get_or w.task.waiting 0 no_request) (with w (without_front w.task) w.ok))
  unfolding list_handled
  list_more n i w h f = let e : n - i ≡ suc (n - (i + 1)) = omega arith in rw (e, f)

  pub list_held : (n : ℕ) (w : Work) → is_free w.task.mode ≡ false → list_handled moves gates b masks n w ≡ w
  unfolding list_handled
  list_held zero w h = refl
  list_held (suc n) w h = rw h

  pub list_none : (w : Work) → list_handled moves gates b masks 0 w ≡ w
  unfolding list_handled
  list_none w = refl
