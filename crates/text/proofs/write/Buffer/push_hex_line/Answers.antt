-- `text::write::Buffer::push_hex_line` meets its contract: three texts, one behind the other.
use Rattle.std.proofs.Common.{arith, rules}
use Rattle.std.proofs.lemmas.Grind.{common_steps}
use Rattle.float.proofs.Digits.{length_hex_of}
use Rattle.text.proofs.write.Buffer.push_hex_line.Goals as goal

pub push_hex-requires : goal.push_hex-requires
push_hex-requires g c = (search rules, grind (arith, common_steps, length_hex_of c.args.digits c.args.v))
