-- `calls::perform`: by the call.
use Rattle.model.specs.Call.{insert, update}
use Rattle.model.specs.Script.{content_of}
use Rattle.script.specs.Values.{value_of}
use Rattle.carry.proofs.Doings.{brought-did, silent-performed, performed-as, on_call}
use Rattle.carry.proofs.calls.perform.Goals as goal

pub view-requires : goal.view-requires
view-requires c = c.requires

pub returns-in-View : goal.returns-in-View
returns-in-View c = performed-as (on_call c.args.read c.in-View.is c.args.path.now c.args.line.now) c.view.ensures

pub returns-in-Insert : goal.returns-in-Insert
returns-in-Insert c =
    let b = c.bring.ensures in
    let did = brought-did (insert c.args.path.now) (content_of (value_of c.in-Insert.v c.args.line.now)) c.args.read.subject b.met b.value_is b.store_is b.left_is in
    performed-as (on_call c.args.read c.in-Insert.is c.args.path.now c.args.line.now) (silent-performed _ c.args.out.now did c.silent.ensures)

pub returns-in-Update : goal.returns-in-Update
returns-in-Update c =
    let b = c.bring-in-Update.ensures in
    let did = brought-did (update c.args.path.now) (content_of (value_of c.in-Update.v c.args.line.now)) c.args.read.subject b.met b.value_is b.store_is b.left_is in
    performed-as (on_call c.args.read c.in-Update.is c.args.path.now c.args.line.now) (silent-performed _ c.args.out.now did c.silent-in-Update.ensures)

pub returns-in-Delete : goal.returns-in-Delete
returns-in-Delete c =
    performed-as (on_call c.args.read c.in-Delete.is c.args.path.now c.args.line.now)
    (silent-performed _ c.args.out.now c.delete.ensures c.silent-in-Delete.ensures)
