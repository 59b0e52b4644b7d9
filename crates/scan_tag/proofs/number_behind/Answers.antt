-- `number_behind`: the bytes do not stand there, or the number behind them.
use Rattle.scan_tag.proofs.Leading.{behind-open, behind-within, behind-number}
use Rattle.scan_tag.proofs.number_behind.Goals as goal

pub returns-then-not-starts : goal.returns-then-not-starts
returns-then-not-starts c = search behind-open

pub number_at-requires : goal.number_at-requires
number_at-requires c = search behind-within

pub returns : goal.returns
returns c = search behind-number
