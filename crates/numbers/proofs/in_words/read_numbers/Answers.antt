-- `numbers::in_words::read_numbers` gives the numbers that the words have, each from its place. Assumes nothing.
use Rattle.numbers.proofs.in_words.Halves.{read_made}
use Rattle.numbers.proofs.in_words.read_numbers.Goals as goal

pub returns : goal.returns
returns c = read_made c.args.words.now c.joined_halves.ensures c.joined_halves-2.ensures
    c.joined_halves-3.ensures c.joined_halves-4.ensures c.joined_halves-5.ensures
