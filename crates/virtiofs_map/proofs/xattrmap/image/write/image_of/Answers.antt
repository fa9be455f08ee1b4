use Rattle.std.proofs.Common.{◌≡◌, ◌*◌, ◌/◌, ◌+◌, ◌≤◌, ◌++◌, length, refl, subst, sym, ap, ◌∙◌, arith, flat_map}
use Rattle.virtiofs_map.specs.NodeParts.{AreTrieRows, row_in}
use Rattle.virtiofs_map.specs.NamesImage.{longest_image}
use Rattle.virtiofs_map.specs.NamesImageParts.{ArePlaces, IsWholeImage}
use Rattle.virtiofs_map.specs.declared.xattrmap.scopes.Side.TheVariants.{Client, Server}
use Rattle.virtiofs_map.proofs.xattrmap.image.write.NamesImageLemmas.{content_is, content_whole, nodes_fit, rows_are}
use Rattle.virtiofs_map.proofs.xattrmap.image.write.image_of.Goals as goal

pub returns : goal.returns
returns g c =
    let rules = c.args.rules in
    let places = c.in-Some.places in
    let laid = c.in-Some.ensures.laid in
    let tries = c.in_ok-client.ensures in
    let client = c.in_ok-client.client.items in
    let server = c.in_ok-client.server.items in
    let client_long = c.len.ensures in
    let server_long = c.len-2.ensures in
    let begins : (48 + length client) / 8 ≡ places.server / 8 =
    ap (λ n. n / 8) (omega (arith, laid.first, client_long)) in
    let clients : AreTrieRows Client rules.list rules.bytes client 6 = tries.client in
    let servers : AreTrieRows Server rules.list rules.bytes server (places.server / 8) =
    subst (AreTrieRows Server rules.list rules.bytes server) begins tries.server in
    let are : ArePlaces (24 * length clients.nodes) (24 * length servers.nodes) (length rules.list)
    (length rules.bytes) places = record {
      first = omega (arith, laid.first, client_long, clients.rows_of.long);
      second = omega (arith, laid.second, server_long, servers.rows_of.long);
      third = laid.third;
      last = laid.last;
      short = laid.short;
    } in
    let few : length rules.bytes ≤ longest_image = omega (arith, laid.last, laid.short) in
    let texts : places.bytes + length rules.bytes ≤ longest_image = omega (arith, laid.last, laid.short) in
    let client_within : 8 * 6 + length client ≤ longest_image =
    omega (arith, laid.first, laid.second, laid.third, laid.last, laid.short, client_long) in
    let server_within : 8 * (places.server / 8) + length server ≤ longest_image =
    omega (arith, laid.first, laid.second, laid.third, laid.last, laid.short, server_long) in
    let client_pushed =
    c.in_ok-push_rows.ensures 6 clients.nodes
    (c.as_slice.ensures.value ∙ rows_are Client rules.list rules.bytes client 6 clients client_within few)
    clients.rows_of.bytes
    (nodes_fit Client rules.list rules.bytes client 6 clients client_within places.bytes texts) in
    let server_pushed =
    c.in_ok-push_rows-2.ensures (places.server / 8) servers.nodes
    (c.as_slice-2.ensures.value
    ∙ rows_are Server rules.list rules.bytes server (places.server / 8) servers server_within few)
    servers.rows_of.bytes
    (nodes_fit Server rules.list rules.bytes server (places.server / 8) servers server_within places.bytes texts) in
    subst (IsWholeImage rules.list)
    (sym
    (content_is places (flat_map (row_in 6 places.bytes) clients.nodes)
    (flat_map (row_in (places.server / 8) places.bytes) servers.nodes) rules.rows rules.bytes
    _ _ _ _ _ _ _ _ _ _ c.in_ok-image.ensures.items c.in_ok-push_header.ensures client_pushed server_pushed
    (c.in_ok-extend_from_slice.ensures.items ∙ ap (λ l. c.push_rows-2.new.image.items ++ l) c.rows.ensures)
    c.in_ok-extend_from_slice-2.ensures.items c.in_ok-push_le_u64.ensures refl refl c.bytes.ensures.bytes))
    (content_whole rules.list clients.nodes servers.nodes rules.rows rules.bytes places are c.bytes.ensures.kept
    c.requires clients.trie servers.trie clients.rows_of.bytes servers.rows_of.bytes)
