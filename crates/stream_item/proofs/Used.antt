-- What the proofs of this crate cite, by one name. Assumes nothing.
use Rattle.answer.proofs.Told.{told}
use Rattle.stream_item.proofs.LinkLaws.{chain-none, chain-pass, led-to, led_on, link-broken, link-whole, link_of-cut, link_of-landed, link_of-missed, whole_is}
use Rattle.stream_item.proofs.NextLaws.{next-cut, next-done, next-long, next-payload, next-short, next-used, next-yields}

pub ruleset laws = (chain-none, chain-pass, led-to, led_on, link-broken, link-whole, link_of-cut, link_of-landed, link_of-missed, next-cut, next-done, next-long, next-payload, next-short, next-used, next-yields, told, whole_is)
