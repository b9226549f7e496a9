-- The measure of `chain::chain_from` is how many words are left.
use lib.ListN.{length}
use Rattle.capability.proofs.chain.+chain_from.Given as goal

abbrev pub decreases-chain_from : goal.decreases-chain_from
decreases-chain_from l = length l.words.now
