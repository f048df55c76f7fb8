-- The steps of work at a task are the protocol's: Free, an entry, a LOCK passed on, a move with its announcement, a result sent.
use Rattle.std.specs.Prelude.{Some}
use Prim.Native.Nat.{ℕ, ◌<◌, ◌≤◌}
use mathlib.Core.Bool.{Bool, ◌&&◌, cond, false, true}
use mathlib.Core.List.{List, [], ◌++◌, ◌∷◌}
use mathlib.Core.Path.{◌≡◌, ◌∙◌, ap, refl, subst, sym}
use native.Mathlib.Omega.{arith}
use lib.Dec.{ltb}
use lib.ListN.{length, length-set}
use borrow.Author.Tests.{lt-ltb}
use Rattle.std.proofs.lemmas.Bool.{and_from}
use Rattle.sets.specs.Sets.{member_of}
use Rattle.table.specs.Tables.{mask_of, ready_of}
use Rattle.table.specs.declared.Table.{Table}
use Rattle.channels.specs.Channels.{empty1, empty3, put1, put3}
use Rattle.channels.specs.declared.Channel1.{Channel1}
use Rattle.channels.specs.declared.Channel3.{Channel3}
use Rattle.channels.specs.declared.Message.{Message}
use Rattle.channels.specs.declared.Message.TheVariants.{Lock}
use Rattle.channels.specs.declared.Request.{Request}
use Rattle.state.specs.States.{across_of, at_state, up_of, with_mode}
use Rattle.state.specs.Parts.{with_across, with_up}
use Rattle.state.specs.declared.Gate.{Gate}
use Rattle.state.specs.declared.Mode.TheVariants.{Free, Held}
use Rattle.state.specs.declared.Task.{Task}
use Rattle.tasks.specs.Tasks.{announced, entered, moved_to, sent, sent_below, sent_across, with}
use Rattle.tasks.specs.declared.Work.{Work}
use Rattle.protocol.specs.Lines.{Line, ready_if, result}
use Rattle.protocol.specs.Plans.{changed}
use Rattle.protocol.specs.Steps.{forwarded, result_sent, with_ready}
use Rattle.protocol.proofs.Agree.{agree_path}
use Rattle.protocol.proofs.Cases.{diff, eq_case, eqb_same, same}
use Rattle.protocol.proofs.Decided.{below_undecided}
use Rattle.protocol.proofs.Invariant.{Ghost, Links}
use Rattle.protocol.proofs.Moved.{announce_links, announced_ghost}
use Rattle.protocol.proofs.Phases.{idle}
use Rattle.protocol.proofs.Room.{up_room}
use Rattle.protocol.proofs.Tokens.{in_hand}
use Rattle.line.specs.Contents.{messages1, messages3}
use Rattle.link.proofs.Channels.{empty_count1, put_messages1, put_messages3, room3}
use Rattle.link.proofs.Entries.{entries_more}
use Rattle.link.proofs.Frame.{changed_at, set_row, swap_kept, swap_part, swap_row}
use Rattle.link.proofs.Loops.{allowed, allowed_if, send, tell, with_acrosses, with_ups}
use Rattle.link.proofs.Shows.{Shows, allowed_shows, line_at, own_across, own_up, shows_all}
use Rattle.link.proofs.Tables.{Lawful, plan_of}
use Rattle.link.proofs.View.{across_list, line_with, up_list, requests_of}
use Rattle.protocol.specs.Steps as step

-- task b is Free
abbrev pub freed : Line → ℕ → Line
freed s b = step.with_mode s (changed s.mode b Free)

ready_small : (q : Bool) → length (ready_if q) < 3
ready_small true = omega arith
ready_small false = omega arith

-- a READY finds room, or the newest is one
pub ready_room : (T : Table) (q : Lawful T) (s : Line) (h : Ghost) → Links (plan_of T) s h
    → (t g : ℕ) → length (with_ready (s.up t g)) ≤ 3
ready_room T q s h j t g =
    let all : ℕ → Bool = λ _. true in
    let r = up_room (plan_of T) q.right (step.announced s t all) (announced_ghost h t all)
    (announce_links (plan_of T) s h t all j) t g in
    rw eqb_same at r

module _ (G : ℕ → Gate) (log : List Request) (b : ℕ) (S : ℕ → Task) where
  abbrev ShowsHere : Work → Line → Type 0
  ShowsHere w x = Shows G log b S w x

  -- b is Free
  pub freed_shows : (w : Work) (x : Line) → ShowsHere w x → ShowsHere (with w (with_mode w.task Free) w.ok) (freed x b)
  freed_shows = shows_all G log b S (λ w x. ShowsHere (with w (with_mode w.task Free) w.ok) (freed x b)) (λ p n E z l. record {
    good = refl;
    fit = record { sized = record { waiting = z.sized.waiting; up = z.sized.up; across = z.sized.across }; few = z.few };
    long = l;
    is = agree_path (record {
      at = swap_kept (λ p. p.state) S b p (with_mode p Free) refl;
      mode = swap_part (λ p. p.mode) S b p (with_mode p Free) Free refl;
      waiting = swap_kept requests_of S b p (with_mode p Free) refl;
      offers = λ g t. refl;
      deal = λ g. refl;
      up = λ x g. swap_kept (λ p. up_list p g) S b p (with_mode p Free) refl x;
      down = λ g t. refl;
      across = λ x c. swap_kept (λ p. across_list p c) S b p (with_mode p Free) refl x;
      log = refl;
    });
  })

  -- the entry of request r
  pub entered_shows : (r : Request) (w : Work) (x : Line) → ShowsHere w x → w.fired < 16
      → ShowsHere (entered w r) (step.entered x r.gate.0 r.vector)
  entered_shows r = shows_all G log b S
      (λ w x. w.fired < 16 → ShowsHere (entered w r) (step.entered x r.gate.0 r.vector)) (λ p n E z l room. record {
        good = refl;
        fit = z;
        long = simp length-set l;
        is = ap (λ (l : List Request). line_with (changed S b p) G l) (entries_more n E r log (omega arith));
      })

  -- LOCK to a higher task, and Held
  pub passed_shows : (r : Request) (c : ℕ) → c < 16 → (w : Work) (x : Line) → ShowsHere w x → x.across b c ≡ []
      → ShowsHere (sent_across (with w (with_mode w.task (Held r)) w.ok) c (Lock r)) (forwarded x r.gate.0 r.vector b c)
  passed_shows r c hc = shows_all G log b S
      (λ w x. x.across b c ≡ []
      → ShowsHere (sent_across (with w (with_mode w.task (Held r)) w.ok) c (Lock r)) (forwarded x r.gate.0 r.vector b c))
      (λ p n E z l none.
      let d : Channel1 = across_of p c in
      let s = allowed_shows G log b S p n E z l in
      let empty : messages1 d ≡ [] = sym (own_across G log b S (allowed p n E) (line_at G log b S p n E) c s) ∙ none in
      let q : Task = with_across (with_mode p (Held r)) c (put1 d (Lock r)) in
      let lc : c < length p.across = omega (arith, z.sized.across) in
      record {
        good = rw (empty_count1 d empty);
        fit = record {
          sized = record { waiting = z.sized.waiting; up = z.sized.up; across = simp length-set z.sized.across };
          few = z.few;
        };
        long = l;
        is = agree_path (record {
          at = swap_kept (λ p. p.state) S b p q refl;
          mode = swap_part (λ p. p.mode) S b p q (Held r) refl;
          waiting = swap_kept requests_of S b p q refl;
          offers = λ g t. refl;
          deal = λ g. refl;
          up = λ x g. swap_kept (λ p. up_list p g) S b p q refl x;
          down = λ g t. refl;
          across = swap_row across_list S b c p q _ (λ y. set_row messages1 p.across c (put1 d (Lock r)) empty1 lc y
              ∙ ap (λ m. changed (across_list p) c m y) (put_messages1 d (Lock r) empty
              ∙ ap (λ m. m ++ Lock r ∷ []) (ap (λ p. across_list p c) (sym (changed_at S b p)))));
          log = refl;
        });
      })

  module _ (T : Table) (q : Lawful T) (hb : b < 16) where
    -- b moves to y, is Free and announces itself
    pub moved_shows : (y : ℕ) (w : Work) (x : Line) → ShowsHere w x → ((g : ℕ) → length (with_ready (x.up b g)) ≤ 3)
        → ShowsHere (moved_to T.moves T.gates b (Some y) w) (step.moved (plan_of T) (freed x b) b y)
    unfolding announced
    moved_shows y = shows_all G log b S
        (λ w x. ((g : ℕ) → length (with_ready (x.up b g)) ≤ 3)
        → ShowsHere (moved_to T.moves T.gates b (Some y) w) (step.moved (plan_of T) (freed x b) b y))
        (λ p n E z l small.
        let s = allowed_shows G log b S p n E z l in
        let room : (g : ℕ) → length (with_ready (up_list p g)) ≤ 3 = λ g.
        subst (λ m. length (with_ready m) ≤ 3) (own_up G log b S (allowed p n E) (line_at G log b S p n E) g s) (small g) in
        let t = tell T.moves T.gates b y (with_mode (at_state p y) Free) n E z.sized.up room T.gates q.rules.gates in
        let new : Task = with_ups (with_mode (at_state p y) Free) t.channels in
        rw t.is (record {
          good = refl;
          fit = record { sized = record { waiting = z.sized.waiting; up = t.long; across = z.sized.across }; few = z.few };
          long = l;
          is = agree_path (record {
            at = swap_part (λ p. p.state) S b p new y refl;
            mode = swap_part (λ p. p.mode) S b p new Free refl;
            waiting = swap_kept requests_of S b p new refl;
            offers = λ g t. refl;
            deal = λ g. refl;
            down = λ g t. refl;
            up = λ x g. elim (eq_case x b) [
              | diff d e ↦ rw e
              | same d e ↦ rw e (t.row g ∙ ap (λ c. cond c (with_ready (up_list p g)) (up_list p g)) (here g (ready_of T.moves b y g) refl))
            ];
            across = λ x c. swap_kept (λ p. across_list p c) S b p new refl x;
            log = refl;
          });
        }))
      where
        here : (g : ℕ) (c : Bool) → ready_of T.moves b y g ≡ c → (c && ltb g T.gates) ≡ c
        here g true e = lt-ltb g T.gates (q.leads b y g e).gate
        here g false e = refl

    -- the result k of request r to each lower task, then to the gate
    module _ (h : Ghost) (r : Request) (et : h.token r.gate.0 ≡ in_hand r.vector b) (eb : h.phase b ≡ idle)
        (hg : r.gate.0 < 16) (k : Bool) where
      abbrev g : ℕ
      g = r.gate.0

      abbrev v : ℕ
      v = r.vector

      abbrev mask : ℕ
      mask = mask_of T.masks g v

      pub sent_shows : (w : Work) (x : Line) → ShowsHere w x → Links (plan_of T) x h
          → ShowsHere (sent b mask g (result k g) w) (result_sent (plan_of T) x g v b k)
      unfolding sent_below
      sent_shows = shows_all G log b S
          (λ w x. Links (plan_of T) x h → ShowsHere (sent b mask g (result k g) w) (result_sent (plan_of T) x g v b k))
          (λ p n E z l j.
          let X : Line = line_at G log b S p n E in
          let s = allowed_shows G log b S p n E z l in
          let m : Message = result k g in
          let d : Channel3 = up_of p g in
          let up_is : messages3 d ≡ X.up b g = sym (own_up G log b S (allowed p n E) X g s) in
          let lower_empty : (y : ℕ) → member_of mask y ≡ true → y < b → across_list p y ≡ [] = λ y e lt.
          sym (own_across G log b S (allowed p n E) X y s) ∙ j.lower b y lt
          ∙ rw (below_undecided (plan_of T) X h j g v b true et eb y (and_from _ _ e (lt-ltb y b lt))) in
          let room : d.count < 3 = room3 d (rw (up_is ∙ (j.pair b g).up_is, et) (ready_small (h.ready_last b g))) in
          let t = send mask m p n E z.sized.across b (omega arith) lower_empty in
          let lg : g < length p.up = omega (arith, z.sized.up) in
          let new : Task = with_up (with_acrosses p t.channels) g (put3 d m) in
          let done : sent b mask g m (allowed p n E) ≡ allowed new n E = rw t.is (ap (λ ok. allowed_if ok new n E) (lt-ltb _ 3 room)) in
          subst (λ (u : Work). ShowsHere u (result_sent (plan_of T) X g v b k)) (sym done) (record {
            good = refl;
            fit = record {
              sized = record { waiting = z.sized.waiting; up = simp length-set z.sized.up; across = t.long };
              few = z.few;
            };
            long = l;
            is = agree_path (record {
              at = swap_kept (λ p. p.state) S b p new refl;
              mode = swap_kept (λ p. p.mode) S b p new refl;
              waiting = swap_kept requests_of S b p new refl;
              offers = λ g t. refl;
              deal = λ g. refl;
              down = λ g t. refl;
              up = swap_row up_list S b g p new _ (λ y. set_row messages3 p.up g (put3 d m) empty3 lg y
                  ∙ ap (λ l. changed (up_list p) g l y) (put_messages3 d m room ∙ ap (λ l. l ++ m ∷ []) up_is));
              across = λ x y. elim (eq_case x b) [ diff f e ↦ rw e | same f e ↦ rw e (t.row y) ];
              log = refl;
            });
          }))
