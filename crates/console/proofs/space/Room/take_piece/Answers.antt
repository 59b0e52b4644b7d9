-- `console::space::Room::take_piece`: the piece is fed, and what it prints is handed on, or could not be.
use Rattle.std.proofs.Common.{ap, take}
use Rattle.batch.specs.declared.Line.{Line}
use Rattle.console.proofs.Turning.{piece-settled, handed-so}
use Rattle.console.proofs.space.Room.take_piece.Goals as goal

pub returns-then-input-lt65536 : goal.returns-then-input-lt65536
returns-then-input-lt65536 g c =
    piece-settled c.empty.result c.feed.new.self.at c.empty.new.self.at c.in_ok-feed.ensures (handed-so c.empty.result _ _ _ c.empty.ensures.handed)
    c.empty.ensures.rest.1 (ap (λ (l : Line). take l.kept l.bytes) c.empty.ensures.rest.0)
