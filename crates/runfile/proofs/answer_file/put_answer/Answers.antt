use mathlib.Core.Path.{◌≡◌}
use mathlib.Core.List.{append-nil}
use Prim.Native.Nat.{◌+◌, ◌*◌}
use Rattle.runfile.specs.AnswerFile.{word_stored, four_bytes, values_at, put_answer}
use lib.ListN.{set, drop}
use Rattle.lists.specs.Parts.{tail_part, tail_rest, sets_in_tail}
use Rattle.runfile.proofs.answer_file.put_answer.Goals as goal

pub returns : goal.returns
unfolding put_answer word_stored
returns c = let n = c.args.n in let k = c.args.k in let v = c.args.answer.value in
    let ys = set c.args.out.now (2 + k) c.args.answer.result in
    let e : c.fill_value.new.values ≡ word_stored (4 * k) v (drop (values_at n) ys) = rw (← tail_part (values_at n) ys) c.fill_value.ensures in
    rw (e, tail_rest (values_at n) ys, append-nil (word_stored (4 * k) v (drop (values_at n) ys))) (sets_in_tail (values_at n) ys (4 * k) (four_bytes v))
