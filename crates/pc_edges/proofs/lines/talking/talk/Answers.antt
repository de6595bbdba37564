use Rattle.std.proofs.Common.{Err, ap, subst}
use Rattle.pc_edges.proofs.lemmas.lines.TalkLaws.{begins, goes_on, stopped_at, cut_in, last_answered, last_cut, ended, unread, too_long}
use Rattle.pc_edges.proofs.lines.talking.talk.Goals as goal

pub loop-talker-init : goal.loop-talker-init
loop-talker-init g c = begins c.args.talker.now c.args.source.now c.args.out.now c.args.reader c.requires

pub loop-talker-preserved : goal.loop-talker-preserved
loop-talker-preserved g c =
    let h = c.loop-talker.invariant in
    let stepped = rw c.in-Ok-Line.field-0-is at c.in-Ok-Line.ensures.stepped in
    let said = c.in-Ok.ensures in
    goes_on h c.reply.new.self c.next.new.source c.reply.new.out c.next.new.self (said.0) (stepped h.lines h.bytes h.stands) c.in-Ok-Line.ensures.no_fault
    (subst (λ l. g.T.Answers.Says c.loop-talker.talker l (said.0) c.reply.new.self) c.line.ensures (said.1)) (said.2).ok

pub returns-in_default-clause-ends : goal.returns-in_default-clause-ends
returns-in_default-clause-ends g c =
    let h = c.loop-talker.invariant in
    let stepped = rw c.in-Ok-Line.field-0-is at c.in-Ok-Line.ensures.stepped in
    let said = c.in_default.ensures in
    cut_in h c.reply.new.self c.next.new.source c.reply.new.out c.next.new.self (said.0) (stepped h.lines h.bytes h.stands) c.in-Ok-Line.ensures.no_fault
    (subst (λ l. g.T.Answers.Says c.loop-talker.talker l (said.0) c.reply.new.self) c.line.ensures (said.1)) (said.2).err

pub returns-in_default-reply-clause-ends : goal.returns-in_default-reply-clause-ends
returns-in_default-reply-clause-ends g c =
    let h = c.loop-talker.invariant in
    let stepped = rw c.in-Ok-Last.field-0-is at c.in-Ok-Last.ensures.stepped in
    let said = c.in_default-reply.ensures in
    last_cut h c.reply-in-Ok-Last.new.self c.next.new.source c.reply-in-Ok-Last.new.out c.next.new.self (said.0) (stepped h.lines h.bytes h.stands) c.in-Ok-Last.ensures.no_fault
    (subst (λ l. g.T.Answers.Says c.loop-talker.talker l (said.0) c.reply-in-Ok-Last.new.self) c.line-in-Ok-Last.ensures (said.1)) (said.2).err

pub returns-in-Ok-Last-clause-ends : goal.returns-in-Ok-Last-clause-ends
returns-in-Ok-Last-clause-ends g c =
    let h = c.loop-talker.invariant in
    let stepped = rw c.in-Ok-Last.field-0-is at c.in-Ok-Last.ensures.stepped in
    let said = c.in-Ok-reply.ensures in
    last_answered h c.reply-in-Ok-Last.new.self c.next.new.source c.reply-in-Ok-Last.new.out c.next.new.self (said.0) (stepped h.lines h.bytes h.stands) c.in-Ok-Last.ensures.no_fault
    (subst (λ l. g.T.Answers.Says c.loop-talker.talker l (said.0) c.reply-in-Ok-Last.new.self) c.line-in-Ok-Last.ensures (said.1)) (said.2).ok

pub returns-in-Ok-End-clause-ends : goal.returns-in-Ok-End-clause-ends
returns-in-Ok-End-clause-ends g c =
    let h = c.loop-talker.invariant in
    let stepped = rw c.in-Ok-End.field-0-is at c.in-Ok-End.ensures.stepped in
    ended h c.next.new.source (stepped h.lines h.bytes h.stands) c.in-Ok-End.ensures.no_fault

pub returns-in-Err-ReadFault-clause-ends : goal.returns-in-Err-ReadFault-clause-ends
returns-in-Err-ReadFault-clause-ends g c =
    let h = c.loop-talker.invariant in
    let stepped = rw c.in-Err-ReadFault.field-0-is at c.in-Err-ReadFault.ensures.stepped in
    unread h c.next.new.source (stepped h.lines h.bytes h.stands) (c.in-Err-ReadFault.ensures.fault (ap (λ e. Err e) c.in-Err-ReadFault.field-0-is))

pub returns-in-Err-TooLong-clause-ends : goal.returns-in-Err-TooLong-clause-ends
returns-in-Err-TooLong-clause-ends g c =
    let h = c.loop-talker.invariant in
    let stepped = rw c.in-Err-TooLong.field-0-is at c.in-Err-TooLong.ensures.stepped in
    too_long h c.next.new.source (stepped h.lines h.bytes h.stands) (c.in-Err-TooLong.ensures.too_long (ap (λ e. Err e) c.in-Err-TooLong.field-0-is))

pub returns-in_default-clause-within : goal.returns-in_default-clause-within
returns-in_default-clause-within g c =
    let h = c.loop-talker.invariant in
    let stepped = rw c.in-Ok-Line.field-0-is at c.in-Ok-Line.ensures.stepped in
    stopped_at h c.next.new.source (stepped h.lines h.bytes h.stands).pulled

pub returns-in_default-reply-clause-within : goal.returns-in_default-reply-clause-within
returns-in_default-reply-clause-within g c =
    let h = c.loop-talker.invariant in
    let stepped = rw c.in-Ok-Last.field-0-is at c.in-Ok-Last.ensures.stepped in
    stopped_at h c.next.new.source (stepped h.lines h.bytes h.stands).pulled

pub returns-in-Ok-Last-clause-within : goal.returns-in-Ok-Last-clause-within
returns-in-Ok-Last-clause-within g c =
    let h = c.loop-talker.invariant in
    let stepped = rw c.in-Ok-Last.field-0-is at c.in-Ok-Last.ensures.stepped in
    stopped_at h c.next.new.source (stepped h.lines h.bytes h.stands).pulled

pub returns-in-Ok-End-clause-within : goal.returns-in-Ok-End-clause-within
returns-in-Ok-End-clause-within g c =
    let h = c.loop-talker.invariant in
    let stepped = rw c.in-Ok-End.field-0-is at c.in-Ok-End.ensures.stepped in
    stopped_at h c.next.new.source (stepped h.lines h.bytes h.stands).pulled

pub returns-in-Err-ReadFault-clause-within : goal.returns-in-Err-ReadFault-clause-within
returns-in-Err-ReadFault-clause-within g c =
    let h = c.loop-talker.invariant in
    let stepped = rw c.in-Err-ReadFault.field-0-is at c.in-Err-ReadFault.ensures.stepped in
    stopped_at h c.next.new.source (stepped h.lines h.bytes h.stands).pulled

pub returns-in-Err-TooLong-clause-within : goal.returns-in-Err-TooLong-clause-within
returns-in-Err-TooLong-clause-within g c =
    let h = c.loop-talker.invariant in
    let stepped = rw c.in-Err-TooLong.field-0-is at c.in-Err-TooLong.ensures.stepped in
    stopped_at h c.next.new.source (stepped h.lines h.bytes h.stands).pulled
