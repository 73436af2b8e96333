use Rattle.std.proofs.Common.{◌≡◌, ◌+◌, ◌-◌, take, drop, get_or, ap, ◌∙◌, arith}
use Rattle.compose_wire.specs.Feeding.{body_at}
use Rattle.compose_wire.specs.Requests.{body_of}
use Rattle.compose_wire.proofs.FirstRequest.{is_first_request}
use Rattle.compose_wire.proofs.frame.first_request.Goals as goal

pub returns : goal.returns
returns c =
    let sized = rw c.in-Some.is at c.in_ok-size.ensures in
    let n = c.in-Some.size in
    let h = c.args.held.now in
    let all : (9 + n) - 9 ≡ n = omega arith in
    let says : body_of c.in_ok-body.body ≡ body_at (get_or h 0 0) (take n (drop 9 h)) = c.in_ok-body.ensures.ok ∙ ap (λ m. body_at (get_or h 0 0) (take m (drop 9 h))) all in
    is_first_request h n c.from_be_bytes-session.result (body_of c.in_ok-body.body) sized c.from_be_bytes-session.ensures says
