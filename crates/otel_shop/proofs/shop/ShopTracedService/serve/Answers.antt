use Rattle.std.proofs.Common.{sym}
use Rattle.otel_shop.proofs.ServingLemmas.{read_route, refused_route}
use Rattle.otel_shop.proofs.shop.ShopTracedService.serve.Goals as goal

pub returns-then-is_read-clause-serves : goal.returns-then-is_read-clause-serves
returns-then-is_read-clause-serves g c = read_route g.S.HoldsSpans g.B.Service.answers c.args.request.now
    c.in-Some.route (sym (rw (c.path.ensures.value, c.uri.ensures) at c.in-Some.ensures)) c.args.self.now
    c.args.scope.now c.record_route.new.scope
    (rw (c.method.ensures, c.text.ensures) at c.in_ok-record_route.ensures.tells) c.serve_route.new.response
    c.serve_route.new.scope c.serve_route.new.self c.serve_route.result
    (rw (c.is_read.ensures, c.method-2.ensures) at c.if-is_read.true) c.serve_route.ensures.ok
    c.serve_route.ensures.err

pub returns-else-is_read-clause-serves : goal.returns-else-is_read-clause-serves
returns-else-is_read-clause-serves g c = refused_route g.S.HoldsSpans g.B.Service.answers c.args.request.now
    c.in-Some.route (sym (rw (c.path.ensures.value, c.uri.ensures) at c.in-Some.ensures)) c.args.self.now
    c.args.scope.now c.record_route.new.scope
    (rw (c.method.ensures, c.text.ensures) at c.in_ok-record_route.ensures.tells) c.refuse_method.new.response
    c.refuse_method.result (rw (c.is_read.ensures, c.method-2.ensures) at c.if-is_read.false)
    c.refuse_method.ensures
