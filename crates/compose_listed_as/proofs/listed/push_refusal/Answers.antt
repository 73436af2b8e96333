use Rattle.std.proofs.Common.{rules, ◌≡◌, ◌∙◌, ◌++◌, ℕ, List, ap, subst, string_bytes, OnOk}
use Rattle.std.specs.Prelude.{codes}
use Rattle.compose_readers.specs.Words.{refusal_words}
use Rattle.compose_listed_as.specs.Report.{reader_name}
use Rattle.compose_listed_as.proofs.Texts.{four_pieces}
use Rattle.compose_listed_as.proofs.listed.push_refusal.Goals as goal

pub returns : goal.returns
returns c =
    let d = refusal_words c.args.refusal in let n = reader_name c.args.version in
    subst (λ (b : List ℕ). OnOk c.push_str-4.result (string_bytes c.push_str-4.new.self ≡ b))
    (ap (λ (x : List ℕ). string_bytes c.push_str-3.new.self ++ x) c.words.ensures
    ∙ ap (λ (x : List ℕ). x ++ d)
    (c.in_ok-push_str-3.ensures.bytes
    ∙ ap (λ (x : List ℕ). x ++ codes " refuses the table: ")
    (c.in_ok-push_str-2.ensures.bytes ∙ ap (λ (x : List ℕ). x ++ c.reader_name.result.now) c.in_ok-push_str.ensures.bytes
    ∙ ap (λ (x : List ℕ). (string_bytes c.args.text.now ++ codes ": ") ++ x) c.reader_name.ensures))
    ∙ four_pieces (string_bytes c.args.text.now) (codes ": ") n (codes " refuses the table: ") d) (search rules)
