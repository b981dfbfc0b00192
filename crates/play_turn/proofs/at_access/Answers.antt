use Rattle.play_turn.proofs.KeepLaws.{write_both, read_both}
use Rattle.play_turn.proofs.at_access.Goals as goal

pub returns-in-Write : goal.returns-in-Write
returns-in-Write c =
    let p = c.args.p in
    let a = c.accessed-a in
    let is = c.in-Write.is in rw is (let pair = write_both p _ c.heard_at.result a.result a.ensures.state_value _ _ (rw is at a.ensures.value) c.heard_at.ensures in record { value = pair.0; keeps = pair.1 })

pub returns-in-Read : goal.returns-in-Read
returns-in-Read c =
    let p = c.args.p in
    let a = c.accessed-a in
    let is = c.in-Read.is in rw is (let pair = read_both p _ c.read_at.result a.result a.ensures.state_value (rw is at a.ensures.value) c.read_at.ensures in record { value = pair.0; keeps = pair.1 })
