-- A lower task more has its message where it is in the vector; from 16 on there is no member.
use borrow.Author.Rules.{rules}
use Rattle.laws.proofs.Turning.{turn_more}
use Rattle.sets.proofs.Members.{no_member}
use Rattle.tasks.proofs.sent_below.Goals as goal
use Rattle.tasks.proofs.sent_below.Goals.{then-i-lt-TASKS+then-member, then-i-lt-TASKS+else-member, else-i-lt-TASKS}

pub loop-y-preserved : goal.loop-y-preserved
loop-y-preserved c = (
  search rules,
  rw (
    turn_more,
    ← c.loop-y.invariant.1,
  )
      (elim c.if-i-lt-TASKS.branch [
        | then-i-lt-TASKS+then-member w ↦ rw (w.across-is, w.ok-is, ← w.member.ensures, w.if-member.true, w.has_room-ok.ensures, w.put.ensures)
        | then-i-lt-TASKS+else-member w ↦ rw (w.across-is, w.ok-is, ← w.member.ensures, w.if-member.false)
        | else-i-lt-TASKS w ↦ rw (
          w.across-is,
          w.ok-is,
          no_member 16 c.args.mask c.loop-y.y (search rules) w.if-i-lt-TASKS.false,
        )
      ]),
)
