use Rattle.std.proofs.Common.{◌≡◌, ◌∙◌, ap, sym, subst, rules, arith, cond, false, None, ◌||◌, ◌==◌, take, drop, length, ◌-◌}
use Rattle.std.proofs.lemmas.Grind.{common_steps}
use Rattle.std.proofs.lemmas.Bool.Decides.{nat_tests}
use Rattle.std.proofs.lemmas.List.{take_rest}
use Rattle.std.proofs.lemmas.Str.{IsUtf8-from_ascii}
use Rattle.std.specs.Str.{IsUtf8}
use Rattle.compose_text.specs.Bytes.{is_name_byte, is_blank}
use Rattle.keysym_core.specs.Header.{run, run_length, after_run, valued_entry}
use Rattle.keysym_core.proofs.Lines.{name-ascii}
use Rattle.keysym_core.proofs.header.entry_of.Goals as goal

pub unwrap-requires : goal.unwrap-requires
unwrap-requires c =
    let name : c.split_at.result.0.now ≡ run is_name_byte c.args.bytes.now = search rules in
    let utf8 : IsUtf8 c.split_at.result.0.now = subst IsUtf8 (sym name) (IsUtf8-from_ascii (run is_name_byte c.args.bytes.now) (name-ascii c.args.bytes.now)) in
    grind (arith, common_steps)

pub returns : goal.returns
returns c =
    let bytes = c.args.bytes.now in
    let name : c.split_at.result.0.now ≡ run is_name_byte bytes = search rules in
    let others : c.split_at.result.1.now ≡ after_run is_name_byte bytes = search rules in
    let reported : c.unwrap.result.now ≡ c.split_at.result.0.now = search rules in
    let blanks : c.blank_length-blank_length.result ≡ run_length is_blank (after_run is_name_byte bytes) = c.blank_length-blank_length.ensures.same ∙ ap (run_length is_blank) others in
    let number : take (length c.split_at.result.1.now - c.blank_length-blank_length.result) (drop c.blank_length-blank_length.result c.split_at.result.1.now)
    ≡ after_run is_blank (after_run is_name_byte bytes) =
    take_rest c.split_at.result.1.now c.blank_length-blank_length.result ∙ ap (λ n. drop n c.split_at.result.1.now) blanks ∙ ap (drop (run_length is_blank (after_run is_name_byte bytes))) others in
    let first : (run_length is_name_byte bytes == 0) ≡ false = grind (arith, nat_tests) in
    let second : (run_length is_blank (after_run is_name_byte bytes) == 0) ≡ false = grind (arith, nat_tests) in
    c.valued_entry.ensures ∙ ap (λ n. valued_entry n (take (length c.split_at.result.1.now - c.blank_length-blank_length.result) (drop c.blank_length-blank_length.result c.split_at.result.1.now))) (reported ∙ name)
    ∙ ap (valued_entry (run is_name_byte bytes)) number
    ∙ sym (ap (λ b. cond (b || run_length is_blank (after_run is_name_byte bytes) == 0) None (valued_entry (run is_name_byte bytes) (after_run is_blank (after_run is_name_byte bytes)))) first
    ∙ ap (λ b. cond b None (valued_entry (run is_name_byte bytes) (after_run is_blank (after_run is_name_byte bytes)))) second)
