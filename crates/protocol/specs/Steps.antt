-- The steps that deliveries are composed of.
use Rattle.std.specs.Prelude.{ℕ, Bool, true, false, cond, ◌&&◌, ◌||◌, not, List, [], ◌∷◌, ◌++◌, eqb}
use Rattle.channels.specs.declared.Request.{Request}
use Rattle.channels.specs.declared.Message.{Message}
use Rattle.channels.specs.declared.Message.TheVariants.{Ready, Lock, Commit, Abort}
use Rattle.state.specs.declared.Mode.{Mode}
use Rattle.state.specs.declared.Mode.TheVariants.{Free}
use Rattle.state.specs.declared.Deal.{Deal}
use Rattle.state.specs.declared.Deal.TheVariants.{Idle, Dealing}
use Rattle.protocol.specs.Plans.{Plan, below, changed, changed_from, changed_to}
use Rattle.protocol.specs.Lines.{Line, request, lock, result, held}

-- the line with one part changed
abbrev pub with_at : Line → (ℕ → ℕ) → Line
with_at s f = record { at = f; mode = s.mode; waiting = s.waiting; offers = s.offers; deal = s.deal; up = s.up; down = s.down; across = s.across; log = s.log }

abbrev pub with_mode : Line → (ℕ → Mode) → Line
with_mode s f = record { at = s.at; mode = f; waiting = s.waiting; offers = s.offers; deal = s.deal; up = s.up; down = s.down; across = s.across; log = s.log }

abbrev pub with_waiting : Line → (ℕ → List Request) → Line
with_waiting s f = record { at = s.at; mode = s.mode; waiting = f; offers = s.offers; deal = s.deal; up = s.up; down = s.down; across = s.across; log = s.log }

abbrev pub with_gates : Line → (ℕ → ℕ → Bool) → (ℕ → Deal) → Line
with_gates s o d = record { at = s.at; mode = s.mode; waiting = s.waiting; offers = o; deal = d; up = s.up; down = s.down; across = s.across; log = s.log }

abbrev pub with_up : Line → (ℕ → ℕ → List Message) → Line
with_up s f = record { at = s.at; mode = s.mode; waiting = s.waiting; offers = s.offers; deal = s.deal; up = f; down = s.down; across = s.across; log = s.log }

abbrev pub with_down : Line → (ℕ → ℕ → List Message) → Line
with_down s f = record { at = s.at; mode = s.mode; waiting = s.waiting; offers = s.offers; deal = s.deal; up = s.up; down = f; across = s.across; log = s.log }

abbrev pub with_across : Line → (ℕ → ℕ → List Message) → Line
with_across s f = record { at = s.at; mode = s.mode; waiting = s.waiting; offers = s.offers; deal = s.deal; up = s.up; down = s.down; across = f; log = s.log }

abbrev pub with_log : Line → List Request → Line
with_log s l = record { at = s.at; mode = s.mode; waiting = s.waiting; offers = s.offers; deal = s.deal; up = s.up; down = s.down; across = s.across; log = l }

-- a LOCK is taken from its channel, which holds nothing else: gate g's to b, and the one that a passed on to b
abbrev pub lock_taken : Line → ℕ → ℕ → Line
lock_taken s g b = with_down s (changed_from s.down g b [])

abbrev pub lock_taken_across : Line → ℕ → ℕ → Line
lock_taken_across s a b = with_across s (changed_to s.across a b [])

-- b's waiting list is l
abbrev pub with_list : Line → ℕ → List Request → Line
with_list s b l = with_waiting s (changed s.waiting b l)

-- "Held, and LOCK to the next higher one", c
abbrev pub forwarded : Line → ℕ → ℕ → ℕ → ℕ → Line
forwarded s g v b c =
    with_across (with_mode s (changed s.mode b (held g v))) (changed_to s.across b c (s.across b c ++ lock g v ∷ []))

-- the result "to each lower task of the vector, .. then to the gate"
abbrev pub result_sent : Plan → Line → ℕ → ℕ → ℕ → Bool → Line
result_sent P s g v u k =
    with_across (with_up s (changed_to s.up u g (s.up u g ++ result k g ∷ [])))
    (λ x y. cond (eqb x u && below P g v u y) (s.across x y ++ result k g ∷ []) (s.across x y))

-- "the entry is written after the log's last"
abbrev pub entered : Line → ℕ → ℕ → Line
entered s g v = with_log s (request g v ∷ s.log)

-- "A READY isn't added when the newest message in that channel is a READY already"
abbrev pub with_ready : List Message → List Message
with_ready [] = Ready ∷ []
with_ready (Ready ∷ []) = Ready ∷ []
with_ready (Lock r ∷ []) = Lock r ∷ Ready ∷ []
with_ready (Commit g ∷ []) = Commit g ∷ Ready ∷ []
with_ready (Abort g ∷ []) = Abort g ∷ Ready ∷ []
with_ready (m ∷ n ∷ l) = m ∷ with_ready (n ∷ l)

-- "READY to each gate the task is now ready at"
abbrev pub announced : Line → ℕ → (ℕ → Bool) → Line
announced s t ready = with_up s (λ y x. cond (eqb y t && ready x) (with_ready (s.up y x)) (s.up y x))

-- task t moves to state x and announces itself
abbrev pub moved : Plan → Line → ℕ → ℕ → Line
moved P s t x = announced (with_at s (changed s.at t x)) t (P.ready t x)

-- u's result is taken from its channel to t, which holds nothing else, and t is Free
abbrev pub released : Line → ℕ → ℕ → Line
released s u t = with_across (with_mode s (changed s.mode t Free)) (changed_to s.across u t [])

-- "READY: t joins the offers", where rest is what stands behind it
abbrev pub ready_taken : Line → ℕ → ℕ → List Message → Line
ready_taken s t g rest = with_up (with_gates s (changed_from s.offers g t true) s.deal) (changed_to s.up t g rest)

-- A result of t at gate g, which dealt v: "COMMIT: the gate becomes Idle, t leaves the offers, and the dealt vector's
-- tasks aren't put back. ABORT: the dealt vector's tasks rejoin the offers, then t leaves them".
abbrev pub offers_after : Plan → ℕ → ℕ → Bool → (ℕ → Bool) → ℕ → ℕ → Bool
offers_after P g v k offers t y = cond (eqb y t) false (cond k (offers y) (offers y || P.holds g v y))

abbrev pub result_taken : Plan → Line → ℕ → ℕ → ℕ → Bool → List Message → Line
result_taken P s t g v k rest =
    with_up (with_gates s (λ x y. cond (eqb x g) (offers_after P g v k (s.offers x) t y) (s.offers x y)) (changed s.deal g Idle))
    (changed_to s.up t g rest)

-- the vector "is dealt, its tasks leave the offers, and LOCK (gate, vector) goes to its lowest task", b
abbrev pub dealt : Plan → Line → ℕ → ℕ → ℕ → Line
dealt P s g v b =
    with_down (with_gates s (λ x y. cond (eqb x g) (s.offers x y && not (P.holds g v y)) (s.offers x y)) (changed s.deal g (Dealing v)))
    (changed_from s.down g b (s.down g b ++ lock g v ∷ []))
