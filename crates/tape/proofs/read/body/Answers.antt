use Rattle.std.proofs.Common.{◌≡◌, ℕ, Ok, Vec, vec_items, sym, ap, ◌∙◌, rules}
use Rattle.std.specs.Option.{option_map}
use Rattle.std.specs.declared.alloc.Global.{Global}
use Rattle.std.proofs.lemmas.Result.{err_from_is_err_and}
use Rattle.warning.specs.declared.Warning.TheVariants.{Primary, Message}
use Rattle.warning.specs.Meaning.{kept, owned}
use Rattle.tape.specs.Heads.{body}
use Rattle.tape.specs.Reading.{part}
use Rattle.tape.proofs.Readings.{primary_refused, primary_read, message_refused, area_refused, message_read, agrees_err}
use Rattle.tape.proofs.read.body.Goals as goal

pub returns-in_err-octets-in-Primary : goal.returns-in_err-octets-in-Primary
returns-in_err-octets-in-Primary c =
    let p = err_from_is_err_and c.from_residual.result c.from_residual.ensures.1 in
    let o = c.in-Primary in
    let e = rw c.unwrap_or.ensures at c.in_err-octets-in-Primary.ensures.value in
    rw (p.1, p.2) (ap (λ z. body z c.args.cursor.now) o.is ∙ primary_refused o.pair o.warning_type o.security c.args.cursor.now _ (sym e))

pub returns-in_ok-security_buf-in-Primary : goal.returns-in_ok-security_buf-in-Primary
returns-in_ok-security_buf-in-Primary c =
    let o = c.in-Primary in
    let e = rw c.unwrap_or.ensures at c.in_ok-octets-in-Primary.ensures.value in
    ap (λ z. body z c.args.cursor.now) o.is
    ∙ primary_read o.pair o.warning_type o.security c.args.cursor.now c.in_ok-octets-in-Primary.octets.now c.padded.new.self (sym e)
    ∙ ap (λ z. Ok (Primary o.pair o.warning_type z, c.padded.new.self)) (sym c.in_ok-security_buf-in-Primary.ensures)

pub returns-in_err-message-in-Message : goal.returns-in_err-message-in-Message
returns-in_err-message-in-Message c =
    let p = err_from_is_err_and c.from_residual-in_err-message-in-Message.result c.from_residual-in_err-message-in-Message.ensures.1 in
    let o = c.in-Message in
    rw (p.1, p.2) (agrees_err (λ (v : Vec ℕ Global). vec_items v) owned _ _ _ _ _ (λ f e. ap (λ z. body z c.args.cursor.now) o.is ∙ message_refused o.block o.pair o.coding o.message o.area c.args.cursor.now f e) c.in_err-message-in-Message.ensures)

pub returns-in_err-octets-in-Message : goal.returns-in_err-octets-in-Message
returns-in_err-octets-in-Message c =
    let p = err_from_is_err_and c.from_residual-in_err-octets-in-Message.result c.from_residual-in_err-octets-in-Message.ensures.1 in
    let o = c.in-Message in
    let first = c.in_ok-message-in-Message.ensures in
    rw (p.1, p.2) (agrees_err (λ (v : Vec ℕ Global). vec_items v) owned _ _ _ _ _ (λ f e. ap (λ z. body z c.args.cursor.now) o.is ∙ area_refused o.block o.pair o.coding o.message o.area c.args.cursor.now _ _ f first (ap (λ n. part n c.part_buf.new.cursor) (sym c.unwrap_or-in-Message.ensures) ∙ e)) c.in_err-octets-in-Message.ensures)

pub returns-in_ok-octets-in-Message : goal.returns-in_ok-octets-in-Message
returns-in_ok-octets-in-Message c =
    let o = c.in-Message in
    let xs = c.in_ok-message-in-Message.message in
    let ys = c.in_ok-octets-in-Message.octets in
    let area : kept c.map.result ≡ option_map (λ n. vec_items ys) o.area = search rules in
    ap (λ z. body z c.args.cursor.now) o.is
    ∙ message_read o.block o.pair o.coding o.message o.area c.args.cursor.now (vec_items xs) (vec_items ys) c.part_buf.new.cursor c.part_buf-in-Message.new.cursor c.in_ok-message-in-Message.ensures
    (ap (λ n. part n c.part_buf.new.cursor) (sym c.unwrap_or-in-Message.ensures) ∙ c.in_ok-octets-in-Message.ensures)
    ∙ ap (λ z. Ok (Message o.block o.pair o.coding (vec_items xs) z, c.part_buf-in-Message.new.cursor)) (sym area)
