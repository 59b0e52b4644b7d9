-- `escape_at`: one of three escapes, or none.
use Rattle.scan_value.proofs.Characters.{amp-found, lt-found, gt-found, escape-none}
use Rattle.scan_value.proofs.escape_at.Goals as goal

pub returns-then-starts : goal.returns-then-starts
returns-then-starts c = search amp-found

pub returns-then-starts-2 : goal.returns-then-starts-2
returns-then-starts-2 c = search lt-found

pub returns-then-starts-3 : goal.returns-then-starts-3
returns-then-starts-3 c = search gt-found

pub returns : goal.returns
returns c = search escape-none
