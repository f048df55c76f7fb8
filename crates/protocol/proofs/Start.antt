-- The fresh line keeps the invariant: every token at home, every task idle, and nothing offered.
use Rattle.std.specs.Prelude.{None}
use mathlib.Core.Bool.{false}
use mathlib.Core.Path.{refl, sym}
use Rattle.protocol.specs.Plans.{Plan}
use Rattle.protocol.specs.Lines.{fresh}
use Rattle.protocol.specs.Runs.{start}
use Rattle.protocol.proofs.Cases.{clash}
use Rattle.protocol.proofs.Tokens.{home}
use Rattle.protocol.proofs.Phases.{idle}
use Rattle.protocol.proofs.Invariant.{by_ready, Invariant}

pub fresh_ok : (P : Plan) → Invariant P (fresh P)
fresh_ok P = record {
  ghost = record {
    token = λ g. home;
    phase = λ t. idle;
    passed_to = λ t. None;
    ready_before = λ t g. false;
    ready_last = λ t g. P.ready t (P.start t) g;
    replayed = P.start;
  };
  links = record {
    gate = λ g. record { deal_is = refl; token_right = tt };
    task = λ t. record { mode_is = refl; phase_right = tt };
    higher = λ a b l. refl;
    lower = λ u a l. refl;
    own = λ t. refl;
    pair = λ t g. record { up_is = refl; down_is = refl; waiting_is = refl; undecided_is = refl; passed_is = refl };
  };
  meaning = record { held_ready = λ t. tt; replayed_is = λ t. refl; legal = start; covered = λ t g r. by_ready r };
  none_in_hand = λ g v t e. clash (cc);
  none_waits_lem = λ t e. refl;
  searched = λ g e v b ib f. clash (sym (f b ib));
}
