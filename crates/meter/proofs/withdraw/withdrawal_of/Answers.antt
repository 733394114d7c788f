-- What was counted says where the entries are, and the last two reads what is answered.
use Rattle.register.specs.Head.{entry_offset}
use Rattle.journal.specs.Journal.{journal_of}
use Rattle.judge.specs.Inner.Judged.{counts_of, summary_of}
use Rattle.meter.proofs.Held.{held_counted}
use Rattle.meter.proofs.withdraw.withdrawal_of.Goals as goal

pub returns : goal.returns
unfolding summary_of counts_of entry_offset journal_of
returns c =
    let is = c.args.journal.now.counted in
    record {
      bytes_are = rw (held_counted _ is, c.offset_after.ensures, c.offset_after-2.ensures, is.summary);
      answer_is = rw (c.withdrawn_answer.ensures, c.last.ensures, c.second.ensures, is.summary);
    }
