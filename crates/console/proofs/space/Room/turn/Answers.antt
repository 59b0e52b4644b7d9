-- `console::space::Room::turn`: what came is taken in, or the input is at its end, or the read failed.
use Rattle.console.specs.Room.{left_in}
use Rattle.console.proofs.Turning.{closed-broken}
use Rattle.console.proofs.space.Room.turn.Goals as goal

pub returns-in-Err : goal.returns-in-Err
returns-in-Err g c = (0, closed-broken (left_in c.args.self.now) (left_in c.close-in-Err.new.self) c.close-in-Err.result c.close-in-Err.ensures)
