use Rattle.std.proofs.Common.{◌≡◌, [], Ok, Err, true, get_or, rules, inr}
use Rattle.std.specs.Prelude.{is_ok}
use Rattle.std.proofs.lemmas.Result.{err_from_is_err_and}
use Rattle.set_tables.specs.Table.{endpoint_of}
use Rattle.set_tables.proofs.ElementsRead.{endpoints-end, endpoints-fail, endpoints-start, endpoints-step}
use Rattle.set_tables.proofs.reading.read_endpoints.Goals as goal

pub loop-position-init : goal.loop-position-init
loop-position-init c = endpoints-start c.args.bound c.args.arity c.args.row c.args.records.now.row c.args.endpoints.now.items

pub returns-in_err-endpoint : goal.returns-in_err-endpoint
returns-in_err-endpoint c =
    let p = err_from_is_err_and c.from_residual.result c.from_residual.ensures.1 in
    let stated : endpoint_of c.args.bound c.args.row c.loop-position.position (get_or c.args.records.now.row c.loop-position.position []) ≡ Err c.in_err-endpoint.field-0.0 = cc (c.cell.ensures, c.in_err-endpoint.ensures) in
    rw (p.1, p.2)
    (inr (endpoints-fail c.args.bound c.args.arity c.args.row c.args.records.now.row c.loop-position.position c.in_err-endpoint.field-0.0 c.args.endpoints.now.items c.loop-position.endpoints.items
    c.loop-position.invariant c.loop-position-test.true stated))

pub loop-position-preserved : goal.loop-position-preserved
loop-position-preserved c =
    let good : is_ok c.push.result ≡ true = search rules in
    let stated : endpoint_of c.args.bound c.args.row c.loop-position.position (get_or c.args.records.now.row c.loop-position.position []) ≡ Ok c.in_ok-endpoint.endpoint = cc (c.cell.ensures, c.in_ok-endpoint.ensures) in
    endpoints-step c.args.bound c.args.arity c.args.row c.args.records.now.row c.loop-position.position c.in_ok-endpoint.endpoint c.args.endpoints.now.items c.loop-position.endpoints.items
    c.push.new.self.items c.loop-position.invariant c.loop-position-test.true stated (rw good at c.push.ensures.items)

pub returns : goal.returns
returns c =
    endpoints-end c.args.bound c.args.arity c.args.row c.args.records.now.row c.loop-position.position c.args.endpoints.now.items c.loop-position.endpoints.items
    c.loop-position.invariant c.loop-position-test.false
